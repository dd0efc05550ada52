-- How many rounds a run makes: up to the first quiet one, and with it, or to the limit.
use mathlib.Core.Bool.{Bool, true, false, cond}
use mathlib.Core.Logic.{⊎_elim}
use mathlib.Core.Path.{◌≡◌, refl, sym, ap, ◌∙◌}
use Prim.Native.Nat.{ℕ, ◌+◌, ◌-◌, ◌≤◌, ◌<◌}
use native.Mathlib.Omega.{arith}
use lib.Dec.{ltb}
use borrow.Author.Tests.{lt-ltb, le-ltb, ltb-true, ltb-false}
use Rattle.number.specs.{first_that, First}
use Rattle.number.proofs.Cases.{never}
use Rattle.number.proofs.Firsts.{first-that, first-that-only}
use Rattle.number.proofs.Searches.{below-or-last}
use Rattle.method.specs.Running.{rounds_made}

module _ (limit : ℕ) (quiet : ℕ → Bool) where
  -- where a round below the limit is quiet, the first such is the last made
  pub made_quiet : first_that limit quiet < limit → rounds_made limit quiet ≡ first_that limit quiet + 1
  made_quiet h = rw (lt-ltb _ _ h)

  -- and it is the first below any other limit that is not below the rounds made
  pub first-at-any-limit : (other : ℕ) → first_that limit quiet < limit → rounds_made limit quiet ≤ other
      → first_that other quiet ≡ first_that limit quiet
  first-at-any-limit other h enough =
      let f : First limit quiet (first_that limit quiet) = first-that limit quiet in
      sym (first-that-only other quiet (first_that limit quiet) (record {
        within = omega (arith, made_quiet h);
        before = f.before;
        found = λ l. f.found h;
      }))

  -- where none is, the limit is reached
  made-limit : limit ≤ first_that limit quiet → rounds_made limit quiet ≡ limit
  made-limit h = rw (le-ltb (first_that limit quiet) limit h)

  -- no more rounds than the limit
  pub made-at-most : rounds_made limit quiet ≤ limit
  made-at-most = go (ltb (first_that limit quiet) limit) refl
    where
      go : (t : Bool) → ltb (first_that limit quiet) limit ≡ t → rounds_made limit quiet ≤ limit
      go true e = let h = ltb-true _ limit e in omega (arith, made_quiet h)
      go false e = let h = ltb-false _ limit e in omega (arith, made-limit h)

  -- at least one, where the limit is
  pub made_some : 0 < limit → 0 < rounds_made limit quiet
  made_some p = go (ltb (first_that limit quiet) limit) refl
    where
      go : (t : Bool) → ltb (first_that limit quiet) limit ≡ t → 0 < rounds_made limit quiet
      go true e = omega (arith, made_quiet (ltb-true _ limit e))
      go false e = omega (arith, made-limit (ltb-false _ limit e))

  -- after a round that is made comes another, or it was the last
  pub made-next : (r : ℕ) → r < rounds_made limit quiet
      → ltb (r + 1) (cond (quiet r) (r + 1) limit) ≡ ltb (r + 1) (rounds_made limit quiet)
  made-next r h = go (ltb (first_that limit quiet) limit) refl (quiet r) refl (first-that limit quiet)
    where
      go : (t : Bool) → ltb (first_that limit quiet) limit ≡ t → (u : Bool) → quiet r ≡ u
          → First limit quiet (first_that limit quiet)
          → ltb (r + 1) (cond u (r + 1) limit) ≡ ltb (r + 1) (rounds_made limit quiet)
      go true e true q f =
          let m = made_quiet (ltb-true _ limit e) in
          ⊎_elim
          (λ o. never (sym q ∙ f.before r o))
          (λ o. ap (ltb (r + 1)) (let z : r + 1 ≡ rounds_made limit quiet = omega arith in z))
          (below-or-last (first_that limit quiet) r (omega arith))
      go true e false q f =
          let g : first_that limit quiet < limit = ltb-true _ limit e in
          let m = made_quiet g in
          ⊎_elim
          (λ o. lt-ltb (r + 1) limit (omega arith) ∙ sym (lt-ltb (r + 1) (rounds_made limit quiet) (omega arith)))
          (λ o. never (sym (f.found g) ∙ ap quiet (sym o) ∙ q))
          (below-or-last (first_that limit quiet) r (omega arith))
      go false e true q f =
          let m = made-limit (ltb-false _ limit e) in
          let g : limit ≤ first_that limit quiet = ltb-false _ limit e in
          never (sym q ∙ f.before r (omega arith))
      go false e false q f = ap (ltb (r + 1)) (sym (made-limit (ltb-false _ limit e)))

  -- the last round made is quiet just where one below the limit is
  pub made-last : (r : ℕ) → 0 < r → r ≡ rounds_made limit quiet → quiet (r - 1) ≡ ltb (first_that limit quiet) limit
  made-last r p h = go (ltb (first_that limit quiet) limit) refl (first-that limit quiet)
    where
      go : (t : Bool) → ltb (first_that limit quiet) limit ≡ t → First limit quiet (first_that limit quiet)
          → quiet (r - 1) ≡ t
      go true e f =
          let g : first_that limit quiet < limit = ltb-true _ limit e in
          let m = made_quiet g in
          let z : first_that limit quiet ≡ r - 1 = omega arith in
          rw z at (f.found g)
      go false e f =
          let g : limit ≤ first_that limit quiet = ltb-false _ limit e in
          let m = made-limit g in
          f.before (r - 1) (omega arith)

  -- no round before the last is quiet
  pub made-before : (r : ℕ) → r + 1 < rounds_made limit quiet → quiet r ≡ false
  made-before r h = go (ltb (first_that limit quiet) limit) refl (first-that limit quiet)
    where
      go : (t : Bool) → ltb (first_that limit quiet) limit ≡ t → First limit quiet (first_that limit quiet)
          → quiet r ≡ false
      go true e f = let m = made_quiet (ltb-true _ limit e) in f.before r (omega arith)
      go false e f =
          let m = made-limit (ltb-false _ limit e) in
          let g : limit ≤ first_that limit quiet = ltb-false _ limit e in
          f.before r (omega arith)
