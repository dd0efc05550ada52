-- When lent coordinates are no shades: the rows of document 01's table that speak of them.
use Rattle.std.specs.Prelude.{ℕ, ◌%◌, Bool, not, ◌||◌, List, get_or, length, ltb, eqb}
use Rattle.number.specs.{how_many}
use Rattle.colour.specs.{most_coordinate}
use Rattle.shades.specs.Places.{most_coordinates}

-- n numbers are not triples, one at least: not 3 to some most, or not a multiple of 3
abbrev pub bad_triples : ℕ → ℕ → Bool
bad_triples most n = ltb n 3 || (ltb most n || not (eqb (n % 3) 0))

-- BAD COUNT for n lent coordinates: not 3 to 192, or not a multiple of 3
abbrev pub bad_coordinates : ℕ → Bool
bad_coordinates n = ltb n 3 || (ltb most_coordinates n || not (eqb (n % 3) 0))

-- coordinate i is above 4080
abbrev pub off_grid : List ℕ → ℕ → Bool
off_grid s i = ltb most_coordinate (get_or s i 0)

-- BAD CENTRE: a coordinate above 4080
abbrev pub bad_centre : List ℕ → Bool
bad_centre s = ltb 0 (how_many (length s) (off_grid s))
