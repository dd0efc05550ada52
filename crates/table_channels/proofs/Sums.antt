-- Laws of the sums of pixels: of one pixel, of pixels in two lots, how large they get, and that streaks have the sums
-- of the pixels in them.
use Prim.Native.Nat.{ℕ, ◌+◌, ◌≤◌}
use mathlib.Core.List.{List, [], ◌∷◌, ◌++◌}
use mathlib.Core.Path.{◌≡◌}
use native.Mathlib.Nat.{add-zero}
use native.Mathlib.Omega.{arith}
use lib.ListN.{length, take, drop}
use lib.Seq.{take-add}
use Rattle.number.specs.{sum_of}
use Rattle.number.proofs.ListSums.{sum_of-append, sum_of-bound}
use Rattle.colour.specs.{red_of, green_of, blue_of, most_level, most_pixels}
use Rattle.table_streaks.specs.{streak_sum}
use Rattle.table_channels.specs.Sums.{channel_sums, streak_sums, together, SumsLow}

-- one pixel has its levels
pub one-pixel : (key : ℕ) {r g b : ℕ} → r ≡ red_of key → g ≡ green_of key → b ≡ blue_of key
    → record { red = r; green = g; blue = b } ≡ channel_sums (key ∷ [])
one-pixel key r g b =
    rw (r, g, b, add-zero (red_of key), add-zero (green_of key), add-zero (blue_of key))

-- two lots of pixels have their sums together
sums-append : (ps qs : List ℕ) → channel_sums (ps ++ qs) ≡ together (channel_sums ps) (channel_sums qs)
sums-append ps qs = rw (sum_of-append red_of ps qs, sum_of-append green_of ps qs, sum_of-append blue_of ps qs)

-- the first pixels of a list and some more
pub sums-more : (n m : ℕ) (ps : List ℕ)
    → channel_sums (take (n + m) ps) ≡ together (channel_sums (take n ps)) (channel_sums (take m (drop n ps)))
sums-more n m ps = rw (take-add n m ps) (sums-append (take n ps) (take m (drop n ps)))

-- no more pixels than a table has give no greater sums than a table has
pub sums-low : (ps : List ℕ) → length ps ≤ most_pixels → SumsLow (channel_sums ps)
sums-low ps few = record {
  red_low = omega (arith, sum_of-bound most_level red_of ps (λ k. omega arith));
  green_low = omega (arith, sum_of-bound most_level green_of ps (λ k. omega arith));
  blue_low = omega (arith, sum_of-bound most_level blue_of ps (λ k. omega arith));
}

-- streaks that hold the pixels of a list have its sums
pub streaks-are-pixels : (xs ps : List ℕ) → ((f : ℕ → ℕ) → sum_of (streak_sum f) xs ≡ sum_of f ps)
    → streak_sums xs ≡ channel_sums ps
streaks-are-pixels xs ps h = rw (h red_of, h green_of, h blue_of)
