-- The outcome of a call that refuses by an order: it is refused exactly by the first row whose test holds, and else
-- made. Stated once for outcomes of any kind, with the place of the number in them.
use Prim.Native.Nat.{ℕ}
use mathlib.Core.Bool.{Bool, true, false, cond}
use mathlib.Core.List.{List, [], ◌∷◌, ◌++◌}
use mathlib.Core.Logic.{inl, inr}
use mathlib.Core.Path.{◌≡◌, refl, sym, ◌∙◌}
use lib.Dec.{eqb}
use borrow.Author.Tests.{eqb-true, ne_eqb}
use Rattle.number.proofs.Cases.{bool}
use Rattle.refusal.specs.Numbers.{Refusal, number_of, done}
use Rattle.refusal.specs.Order.{Row, first_of, outcome_of}
use Rattle.refusal.specs.Calls.{Refuses}
use Rattle.refusal.proofs.Numbers.{number-not-done}
use Rattle.refusal.proofs.Order.{first-exactly, done-exactly, done-or-refusal}

module _ {A : Type 0} (rows : List Row) (made : A) (refused : ℕ → A) where
  -- where nothing is refused it is made
  pub outcome-made : first_of rows ≡ done → outcome_of rows made refused ≡ made
  outcome-made e = rw e

  -- where something is, it is refused with that number
  pub outcome-refused : (n : Refusal) → first_of rows ≡ number_of n
      → outcome_of rows made refused ≡ refused (number_of n)
  outcome-refused n e = rw (e, ne_eqb (number_of n) done (number-not-done n))

  -- whatever holds of what is made and of every refusal holds of the outcome
  pub outcome-all : (P : A → Type 0) → P made → ((n : ℕ) → P (refused n)) → P (outcome_of rows made refused)
  outcome-all P m r = go (eqb (first_of rows) done)
    where
      go : (b : Bool) → P (cond b made (refused (first_of rows)))
      go true = m
      go false = r (first_of rows)

  module _ (number : A → ℕ) (made-is : number made ≡ done) (refused_is : (n : ℕ) → number (refused n) ≡ n) where
    -- the number in it is that of the first row whose test holds
    outcome-number : number (outcome_of rows made refused) ≡ first_of rows
    outcome-number = elim (bool (eqb (first_of rows) done)) [
      | inl t ↦ rw t (made-is ∙ sym (eqb-true (first_of rows) done t))
      | inr t ↦ rw t (refused_is (first_of rows))
    ]

    -- a call whose outcome is made by the order refuses by it
    pub refuses : Refuses rows (outcome_of rows made refused) number made refused
    refuses = record {
      refused_exactly = λ n. rw outcome-number (first-exactly rows n);
      accepted_exactly = rw outcome-number (done-exactly rows);
      refused_is = λ n e. outcome-refused n (sym outcome-number ∙ e);
      accepted_is = λ e. outcome-made (sym outcome-number ∙ e);
      number_is = outcome-number;
      by_refusal = outcome-refused;
      by_none = outcome-made;
    }

-- two calls whose rows give one number, that are made alike and leave the same where refused, have one outcome
pub outcome-alike : {A : Type 0} (rows rows' : List Row) (made made' : A) (left : ℕ → A)
    → first_of rows ≡ first_of rows' → (first_of rows ≡ done → made ≡ made')
    → outcome_of rows made left ≡ outcome_of rows' made' left
outcome-alike rows rows' made made' left same alike = elim (done-or-refusal rows) [
  | inl e ↦ outcome-made rows made left e ∙ alike e ∙ sym (outcome-made rows' made' left (sym same ∙ e))
  | inr g ↦
      outcome-refused rows made left g.0 g.1 ∙ sym (outcome-refused rows' made' left g.0 (sym same ∙ g.1))
]

-- rows and then more rows: the outcome by the first ones, where what is made is the outcome by the others
pub outcome-joined : {A : Type 0} (rows more : List Row) (made : A) (left : ℕ → A)
    → outcome_of (rows ++ more) made left ≡ outcome_of rows (outcome_of more made left) left
outcome-joined [] more made left = refl
outcome-joined (r ∷ rows) more made left = elim (bool r.when) [
  | inl t ↦ rw (t, ne_eqb (number_of r.gives) done (number-not-done r.gives))
  | inr t ↦ rw t (outcome-joined rows more made left)
]

-- whatever holds of what is made and of everything left holds of the outcome of a call that refuses by an order
pub refuses-all : {A : Type 0} {rows : List Row} {outcome : A} {number : A → ℕ} {made : A} {left : ℕ → A}
    → Refuses rows outcome number made left → (P : A → Type 0) → P made → ((n : Refusal) → P (left (number_of n)))
    → P outcome
refuses-all {rows} r P m l = elim (done-or-refusal rows) [
  | inl e ↦ rw (r.by_none e) m
  | inr g ↦ rw (r.by_refusal g.0 g.1) (l g.0)
]
