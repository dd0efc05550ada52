-- What the tests of a run with fixed shades say, fact by fact.
use Prim.Native.Nat.{ℕ, ◌+◌, ◌-◌, ◌*◌, ◌≤◌, ◌<◌}
use mathlib.Core.Bool.{false}
use mathlib.Core.List.{List}
use mathlib.Core.Logic.{◌↔◌}
use mathlib.Core.Path.{◌≡◌}
use native.Mathlib.Omega.{arith}
use lib.ListN.{length}
use Rattle.number.proofs.Cases.{neither}
use Rattle.table_test.specs.{Record}
use Rattle.shades.specs.{most_shades}
use Rattle.shades.proofs.Checks.{bad-triples-exactly}
use Rattle.lloyd_tests.specs.{bad_count, no_free}
use Rattle.lloyd_tests.proofs.Checks.{bad-count-exactly, no-free-exactly, not-below-exactly}
use Rattle.lloyd_stock.specs.Stock.{most_fixed, fixed_in, colours_left, bad_fixed, bad_free, few_left}

-- bytes pass the test of a fixed list exactly when they are three for each of 1 to 63 shades
pub bad-fixed-exactly : (fixed : List ℕ)
    → (bad_fixed fixed ≡ false) ↔ ((1 ≤ fixed_in fixed) × (fixed_in fixed ≤ 63) × (length fixed ≡ 3 * fixed_in fixed))
bad-fixed-exactly fixed =
    let e = bad-triples-exactly most_fixed (length fixed) in (
      λ h. let t = e.0 h in (t.0, omega (arith, t.1), t.2),
      λ h. e.1 (h.0, omega (arith, h.1, h.2), h.2),
    )

-- a count of shades passes exactly when there are more than are fixed, and at most 64
pub bad-free-exactly : (fixed : List ℕ) (k : ℕ)
    → (bad_free fixed k ≡ false) ↔ ((fixed_in fixed < k) × (k ≤ most_shades))
bad-free-exactly fixed k = (
  λ h.
      let t = neither (bad_count k) (no_free (fixed_in fixed) k) h in
      ((no-free-exactly (fixed_in fixed) k).0 t.1, ((bad-count-exactly k).0 t.0).1),
  λ h. rw ((bad-count-exactly k).1 (omega (arith, h.0), h.1)) ((no-free-exactly (fixed_in fixed) k).1 h.0),
)

module _ (rec : Record) (ks fixed : List ℕ) (k : ℕ) where
  -- a run passes the test of colours exactly when at least as many are left as shades are free
  pub few-left-exactly : (few_left rec ks fixed k ≡ false) ↔ (k - fixed_in fixed ≤ colours_left rec.used ks fixed)
  few-left-exactly = not-below-exactly (colours_left rec.used ks fixed) (k - fixed_in fixed)

  -- which is to say that fixed shades and colours left are together as many as the shades
  pub enough-left-exactly : (few_left rec ks fixed k ≡ false) ↔ (k ≤ fixed_in fixed + colours_left rec.used ks fixed)
  enough-left-exactly = (
    λ h. omega (arith, few-left-exactly.0 h),
    λ h. few-left-exactly.1 (omega (arith, h)),
  )
