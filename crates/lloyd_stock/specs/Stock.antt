-- Shades fixed from stock: handed in as bytes, three levels for each. Where they stand, and when a run with them is
-- refused for them.
use Rattle.std.specs.Prelude.{ℕ, ◌-◌, ◌/◌, Bool, ◌||◌, List, map, ltb, length}
use Rattle.colour.specs.{sixteenth}
use Rattle.table_test.specs.{Record}
use Rattle.shades.specs.{bad_triples, colour_at}
use Rattle.method.specs.{unlike}
use Rattle.lloyd_tests.specs.{bad_count, no_free}

-- the most bytes of a fixed list: three for each of 63 shades
abbrev pub most_fixed : ℕ
most_fixed = 189

-- how many shades are fixed
abbrev pub fixed_in : List ℕ → ℕ
fixed_in fixed = length fixed / 3

-- where they stand, three coordinates each: their levels in sixteenths
abbrev pub stock : List ℕ → List ℕ
stock fixed = map sixteenth fixed

-- how many used colours are unlike every fixed shade: at a distance from the nearest that is not 0
abbrev pub colours_left : ℕ → List ℕ → List ℕ → ℕ
colours_left used ks fixed = unlike used (colour_at ks) (stock fixed) (fixed_in fixed)

-- BAD PALETTE: a fixed list not of 3 to 189 bytes or not a multiple of 3
abbrev pub bad_fixed : List ℕ → Bool
bad_fixed fixed = bad_triples most_fixed (length fixed)

-- BAD COUNT: shades not 1 to 64, or no free shade is left
abbrev pub bad_free : List ℕ → ℕ → Bool
bad_free fixed k = bad_count k || no_free (fixed_in fixed) k

-- FEW COLOURS: fewer used colours unlike every fixed shade than there are free shades
abbrev pub few_left : Record → List ℕ → List ℕ → ℕ → Bool
few_left rec ks fixed k = ltb (colours_left rec.used ks fixed) (k - fixed_in fixed)
