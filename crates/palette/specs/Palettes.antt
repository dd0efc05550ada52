-- The palette of some shades: a byte for each coordinate.
use Rattle.std.specs.Prelude.{ℕ, ◌+◌, ◌/◌, List, get_or, length}
use Rattle.number.specs.{fill}

-- palette byte: the whole part of (coordinate + 8) / 16
abbrev pub level_of : ℕ → ℕ
level_of coordinate = (coordinate + 8) / 16

-- the lent bytes with the palette in front; those past the last shade's stay
abbrev pub palette_of : List ℕ → List ℕ → List ℕ
palette_of coordinates palette = fill (length coordinates) (λ i. level_of (get_or coordinates i 0)) palette
