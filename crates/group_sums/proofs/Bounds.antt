-- How large the sums of the groups get: each stays below 2^64, as what the entries have does.
use Prim.Native.Nat.{ℕ, ◌+◌, ◌*◌, ◌≤◌, ◌<◌}
use mathlib.Core.Bool.{Bool, true, false, cond}
use mathlib.Core.List.{List}
use mathlib.Core.Path.{refl}
use native.Mathlib.Nat.{le_refl, le_trans}
use native.Mathlib.Omega.{arith}
use lib.Dec.{eqb}
use lib.ListN.{get_or}
use Rattle.number.specs.{sum}
use Rattle.table_entries.specs.{Tabled}
use Rattle.level_sums.specs.{red_green, blue_pixels, weighed}
use Rattle.level_sums.proofs.Bounds.{
  most_pair,
  red-green-at-most,
  blue-pixels-at-most,
  sum_fits,
  part-fits,
  weighed-low,
}
use Rattle.shades.specs.{most_shades}
use Rattle.group_sums.specs.Summing.{given, Summed}
use Rattle.group_sums.proofs.Summing.{given-own}

-- what an entry gives to a group is at most what it has
pub given-at-most : (b : Bool) (a : ℕ) → cond b a 0 ≤ a
given-at-most true a = le_refl a
given-at-most false a = omega arith

module _ (used : ℕ) (ks ws : List ℕ) (t : Tabled used ks ws) where
  module _ (f : ℕ → ℕ) (low : (key : ℕ) → f key ≤ most_pair) where
    -- what an entry gives to a group is at most two levels for each of its pixels
    given-low : (m : ℕ → ℕ) (q i : ℕ) → given m (weighed f ks ws) q i ≤ most_pair * get_or ws i 0
    given-low m q i = le_trans (given-at-most (eqb (m i) q) (weighed f ks ws i)) (weighed-low used ks ws t f low i)

    -- the sum of a group fits
    pub group-fits : (m : ℕ → ℕ) (q : ℕ) → sum used (given m (weighed f ks ws) q) ≤ 18446744073709551615
    group-fits m q = sum_fits used ks ws t (given m (weighed f ks ws) q) (given-low m q)

    -- what entry i adds to the sum of its group fits
    adds_fit : (m : ℕ → ℕ) (i : ℕ) → i < used
        → sum i (given m (weighed f ks ws) (m i)) + weighed f ks ws i ≤ 18446744073709551615
    adds_fit m i h =
        omega (
          arith,
          part-fits used ks ws t (given m (weighed f ks ws) (m i)) (given-low m (m i)) i h,
          given-own m (weighed f ks ws) (m i) i refl,
        )

  -- the sums of a group with what its next entry gives fit
  pub raises-fit : (m : ℕ → ℕ) (i : ℕ) {a : List ℕ} → i < used → m i < most_shades → Summed m ks ws i a
      → (get_or a (2 * m i) 0 + weighed red_green ks ws i ≤ 18446744073709551615)
      × (get_or a (2 * m i + 1) 0 + weighed blue_pixels ks ws i ≤ 18446744073709551615)
  raises-fit m i h few s = (
    rw (s.red-green (m i) few) (adds_fit red_green red-green-at-most m i h),
    rw (s.blue-pixels (m i) few) (adds_fit blue_pixels blue-pixels-at-most m i h),
  )
