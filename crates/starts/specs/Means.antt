-- The mean of a table by its sums.
use Rattle.std.specs.Prelude.{ℕ, ◌*◌}
use Rattle.number.specs.{rounded_mean}
use Rattle.colour.specs.{Point}

-- the rounded mean of so many pixels with these channel sums in whole levels, on the grid of sixteenths
abbrev pub mean_by_sums : ℕ → ℕ → ℕ → ℕ → Point
mean_by_sums pixels red green blue = record {
  r = rounded_mean pixels (16 * red);
  g = rounded_mean pixels (16 * green);
  b = rounded_mean pixels (16 * blue);
}
