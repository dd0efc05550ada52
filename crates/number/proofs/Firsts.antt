-- Laws of `first_that`: no place before it passes, and it passes itself where it is below the end.
use mathlib.Core.Bool.{Bool, true, false, cond}
use mathlib.Core.Logic.{⊎_elim}
use mathlib.Core.Path.{◌≡◌, refl, sym, ◌∙◌}
use Prim.Native.Nat.{ℕ, zero, suc, ◌-◌, ◌<◌}
use native.Mathlib.Omega.{arith}
use native.Mathlib.Decide.{dec_lt}
use lib.Dec.{ltb}
use borrow.Author.Tests.{ltb-true, ltb-false}
use Rattle.number.specs.Search.{first_that, First}
use Rattle.number.proofs.Cases.{never}
use Rattle.number.proofs.Searches.{below-or-last}

-- `first_that` is it
pub first-that : (n : ℕ) (b : ℕ → Bool) → First n b (first_that n b)
unfolding first_that
first-that zero b = record {
  within = omega arith;
  before = λ i h. absurd (omega arith);
  found = λ h. absurd (omega arith);
}
first-that (suc n) b = go (ltb (first_that n b) n) refl (b n) refl (first-that n b)
  where
    go : (t : Bool) → ltb (first_that n b) n ≡ t → (u : Bool) → b n ≡ u → First n b (first_that n b)
        → First (suc n) b (cond t (first_that n b) (cond u n (suc n)))
    go true e u f r =
        let h = ltb-true (first_that n b) n e in
        record { within = omega (arith, r.within); before = r.before; found = λ g. r.found h }
    go false e true f r =
        let h = ltb-false (first_that n b) n e in
        let z : first_that n b ≡ n = omega (arith, r.within) in
        record { within = omega arith; before = λ i g. r.before i (omega arith); found = λ g. f }
    go false e false f r =
        let h = ltb-false (first_that n b) n e in
        let z : first_that n b ≡ n = omega (arith, r.within) in
        record {
          within = omega arith;
          before = λ i g.
              ⊎_elim (λ o. r.before i (omega arith)) (λ o. rw o f) (below-or-last n i (omega arith));
          found = λ g. absurd (omega arith);
        }

-- there is one first place only
pub first-that-only : (n : ℕ) (b : ℕ → Bool) (m : ℕ) → First n b m → m ≡ first_that n b
first-that-only n b m f = go (dec_lt m (first_that n b)) (dec_lt (first_that n b) m) (first-that n b)
  where
    go : Dec (m < first_that n b) → Dec (first_that n b < m) → First n b (first_that n b) → m ≡ first_that n b
    go (yes l) w r = never (sym (f.found (omega (arith, r.within))) ∙ r.before m l)
    go (no l) (yes w) r = never (sym (r.found (omega (arith, f.within))) ∙ f.before (first_that n b) w)
    go (no l) (no w) r = omega arith
