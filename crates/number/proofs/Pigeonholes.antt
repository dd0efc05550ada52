-- Values that all differ are no more than the numbers that they can be.
use mathlib.Core.Bool.{true, cond}
use mathlib.Core.Path.{◌≡◌, refl, sym, ◌∙◌}
use Prim.Native.Nat.{ℕ, ◌≤◌, ◌<◌}
use native.Mathlib.Decide.{dec_le}
use native.Mathlib.Omega.{arith}
use lib.Dec.{eqb}
use borrow.Author.Tests.{eqb-true}
use Rattle.number.specs.Count.{how_many}
use Rattle.number.specs.Sum.{sum}
use Rattle.number.proofs.Sums.{sum-eq, sum_bound, sum-swap, sum-only}
use Rattle.number.proofs.Tallies.{how_many-all, how_many-find, how_many-another, how_many-sum}

module _ (n : ℕ) (f : ℕ → ℕ) (differ : (i j : ℕ) → i < n → j < n → f i ≡ f j → i ≡ j) where
  -- of values that all differ at most one is v
  value-once : (v : ℕ) → how_many n (λ i. eqb (f i) v) ≤ 1
  value-once v =
      elim (dec_le (how_many n (λ i. eqb (f i) v)) 1) [
        | yes h ↦ h
        | no h ↦
            let p = how_many-find n (λ i. eqb (f i) v) (omega arith) in
            let q = how_many-another n p.0 (λ i. eqb (f i) v) p.1 p.2 (omega arith) in
            absurd
            (q.2 (differ q.0 p.0 q.1 p.1 (eqb-true _ v q.3 ∙ sym (eqb-true _ v p.2))))
      ]

  -- n values below m that all differ are at most m: each is one of the m numbers, and each number is one value at most
  pub pigeonhole : (m : ℕ) → ((i : ℕ) → i < n → f i < m) → n ≤ m
  pigeonhole m below =
      omega (
        arith,
        how_many-all n (λ i. true) (λ i l. refl),
        how_many-sum n (λ i. true),
        sum-eq n (λ i. 1) (λ i. sum m (λ j. cond (eqb (f i) j) 1 0))
            (λ i l. sym (sum-only m (f i) (λ j. 1) (below i l))),
        sum-swap n m (λ i j. cond (eqb (f i) j) 1 0),
        sum_bound m 1 (λ j. sum n (λ i. cond (eqb (f i) j) 1 0))
            (λ j l. omega (arith, how_many-sum n (λ i. eqb (f i) j), value-once j)),
      )
