-- How large sums of levels get: two in one number stay below 2^64, as a table has at most 16,777,216 pixels.
use Prim.Native.Nat.{ℕ, ◌+◌, ◌*◌, ◌≤◌, ◌<◌}
use mathlib.Core.List.{List}
use mathlib.Core.Path.{◌≡◌, refl}
use native.Mathlib.Nat.{mul-le-mul_left, mul-le-mul_right, le_trans}
use native.Mathlib.Omega.{arith}
use lib.ListN.{get_or}
use Rattle.number.specs.{sum}
use Rattle.number.proofs.Sums.{sum_more, sum-part, sum-term, sum-le, sum-mul}
use Rattle.colour.specs.{most_level, most_pixels}
use Rattle.table_entries.specs.{Tabled}
use Rattle.level_sums.specs.Levels.{red_green, blue_pixels, weighed}

-- two levels of 255 in one number
abbrev pub most_pair : ℕ
most_pair = 1095216660735

-- red and green level are at most two levels of 255
pub red-green-at-most : (key : ℕ) → red_green key ≤ most_pair
red-green-at-most key = omega arith

-- blue level and 1 are at most two levels of 255
pub blue-pixels-at-most : (key : ℕ) → blue_pixels key ≤ most_pair
blue-pixels-at-most key = omega arith

-- a table's weight times a level fits in 32 bits
pub times-fits : (w x : ℕ) → w ≤ most_pixels → x ≤ most_level → w * x ≤ 4294967295
times-fits w x h g = omega (arith, le_trans (mul-le-mul_left w g) (mul-le-mul_right most_level h))

-- a weight times two levels in one number is its products with both in one
pub times-pair : (w x y : ℕ) → 4294967296 * (w * x) + w * y ≡ w * (4294967296 * x + y)
times-pair w x y = omega arith

module _ (used : ℕ) (ks ws : List ℕ) (t : Tabled used ks ws) where
  -- a weight of the table is at most all of its pixels
  pub weight-at-most : (i : ℕ) → i < used → get_or ws i 0 ≤ most_pixels
  weight-at-most i h = omega (arith, sum-term i used (λ j. get_or ws j 0) h, t.pixels)

  -- values of at most two levels for each pixel have a sum that fits in 64 bits
  pub sum_fits : (f : ℕ → ℕ) → ((i : ℕ) → f i ≤ most_pair * get_or ws i 0) → sum used f ≤ 18446744073709551615
  sum_fits f low =
      omega (
        arith,
        sum-le used f (λ j. most_pair * get_or ws j 0) (λ j l. low j),
        sum-mul used most_pair (λ j. most_pair * get_or ws j 0) (λ j. get_or ws j 0) (λ j l. refl),
        t.pixels,
      )

  -- and so has each part of it with one value more
  pub part-fits : (f : ℕ → ℕ) → ((i : ℕ) → f i ≤ most_pair * get_or ws i 0) → (i : ℕ) → i < used
      → sum i f + f i ≤ 18446744073709551615
  part-fits f low i h = omega (arith, sum_more i f, sum-part (i + 1) used f (omega arith), sum_fits f low)

  module _ (f : ℕ → ℕ) (low : (key : ℕ) → f key ≤ most_pair) where
    -- an entry has at most two levels for each of its pixels
    pub weighed-low : (i : ℕ) → weighed f ks ws i ≤ most_pair * get_or ws i 0
    weighed-low i = omega (arith, mul-le-mul_left (get_or ws i 0) (low (get_or ks i 0)))
