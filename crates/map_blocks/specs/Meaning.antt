-- Mapping: each pixel gets the number of the nearest palette entry in whole levels, lowest number at a tie; the error
-- is the sum of squared level differences, also kept for each channel.
use Rattle.std.specs.Prelude.{ℕ, ◌/◌, ◌≤◌, ◌<◌, List, length}
use Rattle.number.specs.{sum}
use Rattle.colour.specs.{Point, distance}
use Rattle.shades.specs.{shade_at}
use Rattle.map_errors.specs.{Errors, pixel_at, misses_of}
use Rattle.map_block.specs.{nearest_to}

-- a strip's pixel count
abbrev pub pixel_count : List ℕ → ℕ
pixel_count strip = length strip / 3

-- how many entries a palette has
abbrev pub entry_count : List ℕ → ℕ
entry_count palette = length palette / 3

-- entry q of a palette, in whole levels
abbrev pub entry_at : List ℕ → ℕ → Point
entry_at palette q = shade_at palette q

-- the number of the nearest palette entry to pixel i
abbrev pub entry_for : List ℕ → List ℕ → ℕ → ℕ
entry_for palette strip i = nearest_to palette (entry_count palette) strip i

-- q is an entry, no entry is nearer to pixel i, and every lower number is farther
pub record NearestEntry (palette strip : List ℕ) (i q : ℕ) : Type 0 where
  pub entry : q < entry_count palette
  pub least : (r : ℕ) → r < entry_count palette
      → distance (pixel_at strip i) (entry_at palette q) ≤ distance (pixel_at strip i) (entry_at palette r)
  pub lowest : (r : ℕ) → r < q
      → distance (pixel_at strip i) (entry_at palette q) < distance (pixel_at strip i) (entry_at palette r)

-- the errors of a strip's first n pixels, for each channel
abbrev pub errors_of : List ℕ → List ℕ → ℕ → Errors
errors_of palette strip n = misses_of (pixel_at strip) palette (entry_for palette strip) n

-- the error of a strip's first n pixels: the sum of squared level differences
abbrev pub error_of : List ℕ → List ℕ → ℕ → ℕ
error_of palette strip n = sum n (λ i. distance (pixel_at strip i) (entry_at palette (entry_for palette strip i)))
