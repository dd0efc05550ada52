-- Keys passed from the back by sixteens: what holds at each turn of the loop, where it ends, and what is then known of
-- the keys passed.
use mathlib.Core.Path.{◌≡◌, ap}
use mathlib.Core.Bool.{Bool, true, false, not}
use mathlib.Core.Logic.{⊎_elim}
use mathlib.Core.List.{List}
use Prim.Native.Nat.{ℕ, ◌+◌, ◌-◌, ◌*◌, ◌/◌, ◌≤◌, ◌<◌}
use native.Mathlib.Omega.{arith}
use lib.ListN.{get_or}
use Rattle.number.specs.{first_that}
use Rattle.number.proofs.Cases.{not-not}
use Rattle.number.proofs.Firsts.{first-that, first-that-only}
use Rattle.number.proofs.Searches.{below-or-last}
use Rattle.table_back.specs.Passing.{sixteen_passed, pass_sixteens}
use Rattle.table_back.proofs.back.Tests.{sixteen-there}

-- whether the loop ends after m sixteens
abbrev ends : List ℕ → ℕ → ℕ → ℕ → Bool
ends ks i k m = not (sixteen_passed ks (i - 16 * m) k)

-- `times` sixteens of the first i keys are passed, and `left` keys are left
pub record Passing (ks : List ℕ) (i k left : ℕ) : Type 0 where
  pub times : ℕ
  pub left_is : left + 16 * times ≡ i
  pub passed : (m : ℕ) → m < times → sixteen_passed ks (i - 16 * m) k ≡ true

-- before the first turn none is
pub passing-start : (ks : List ℕ) (i k : ℕ) → Passing ks i k i
passing-start ks i k = record { times = 0; left_is = omega arith; passed = λ m l. absurd (omega arith) }

-- sixteen more
pub passing_step : {ks : List ℕ} {i k left : ℕ} → Passing ks i k left → sixteen_passed ks left k ≡ true
    → Passing ks i k (left - 16)
passing_step {ks} {i} {k} {left} t h = record {
  times = t.times + 1;
  left_is = omega (arith, t.left_is, (sixteen-there ks left k h).0);
  passed = λ m l.
      ⊎_elim
      (t.passed m)
      (λ o. let z : i - 16 * m ≡ left = omega (arith, t.left_is) in rw z h)
      (below-or-last t.times m l);
}

-- where the next sixteen are not passed, as many are left as the definition says
pub passing-done : {ks : List ℕ} {i k left : ℕ} → Passing ks i k left → sixteen_passed ks left k ≡ false
    → left ≡ pass_sixteens ks i k
unfolding pass_sixteens
passing-done {ks} {i} {k} {left} t h =
    let z : i - 16 * t.times ≡ left = omega (arith, t.left_is) in
    let only : t.times ≡ first_that (i / 16) (ends ks i k) = first-that-only (i / 16) (ends ks i k) t.times (record {
      within = omega (arith, t.left_is);
      before = λ m l. ap not (t.passed m l);
      found = λ l. rw (z, h);
    }) in
    omega (arith, t.left_is, only)

-- no key is left that was not there, and where some are passed the first of them is not below k
pub sixteens-passed : (ks : List ℕ) (i k : ℕ)
    → (pass_sixteens ks i k ≤ i) × (pass_sixteens ks i k < i → k ≤ get_or ks (pass_sixteens ks i k) 0)
unfolding pass_sixteens
sixteens-passed ks i k =
    let n = first_that (i / 16) (ends ks i k) in
    let f = first-that (i / 16) (ends ks i k) in (
      omega arith,
      λ l.
          let s = sixteen-there ks (i - 16 * (n - 1)) k (not-not _ (f.before (n - 1) (omega arith))) in
          let z : i - 16 * (n - 1) - 16 ≡ i - 16 * n = omega (arith, s.0) in
          rw z at s.1,
    )
