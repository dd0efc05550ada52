-- How far pixels are from the shades that they get: squared level differences, added up for each channel.
use Rattle.std.specs.Prelude.{ℕ, ◌+◌, List}
use Rattle.number.specs.{sum, sq}
use Rattle.colour.specs.{Point}
use Rattle.shades.specs.{shade_at, axis}
use Rattle.map_errors.specs.declared.Errors.{Errors}

-- pixel i of a strip, in whole levels
abbrev pub pixel_at : List ℕ → ℕ → Point
pixel_at strip i = shade_at strip i

-- the squared differences of the first n points from the shades that f names, on one channel
abbrev pub miss_on : ℕ → (ℕ → Point) → List ℕ → (ℕ → ℕ) → ℕ → ℕ
miss_on channel c s f n = sum n (λ i. sq (axis channel (c i)) (axis channel (shade_at s (f i))))

-- and on all three
abbrev pub misses_of : (ℕ → Point) → List ℕ → (ℕ → ℕ) → ℕ → Errors
misses_of c s f n = record { red = miss_on 0 c s f n; green = miss_on 1 c s f n; blue = miss_on 2 c s f n }

-- the errors of two stretches together
abbrev pub plus_errors : Errors → Errors → Errors
plus_errors a b = record { red = a.red + b.red; green = a.green + b.green; blue = a.blue + b.blue }
