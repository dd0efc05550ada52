-- The outcome of a call that refuses by an order, by the refusal itself: it is refused exactly by the first row whose
-- test holds, and else made. Stated once for outcomes of any kind, with the place of the refusal in them.
use Prim.Native.Nat.{ℕ}
use mathlib.Core.List.{List, [], ◌∷◌, ◌++◌}
use mathlib.Core.Logic.{◌↔◌, ◌⊎◌, inl, inr}
use mathlib.Core.Path.{◌≡◌, refl, sym, ap, ◌∙◌}
use Rattle.std.specs.Prelude.{Option, None, Some}
use Rattle.number.proofs.Cases.{bool}
use Rattle.refusal.specs.Numbers.{Refusal, number_of, number_in}
use Rattle.refusal.specs.Order.{Row, first_refusal, first_of, outcome_of, outcome_at, outcome_by, Given, NoneHolds}
use Rattle.refusal.specs.Calls.{Refuses, RefusesBy}
use Rattle.refusal.proofs.Numbers.{number-only, number-not-done, refusal_at, refusal-found}
use Rattle.refusal.proofs.Order.{first-exactly, done-exactly}
use Rattle.refusal.proofs.Outcomes.{outcome-made, outcome-refused}

-- the number of the first row is that of its refusal
pub number-of-first : (rows : List Row) → number_in (first_refusal rows) ≡ first_of rows
number-of-first [] = refl
number-of-first (r ∷ rows) = elim (bool r.when) [
  | inl t ↦ rw t refl
  | inr t ↦ rw t (number-of-first rows)
]

-- of a refusal and of none the number tells which
pub number-in-only : (a b : Option Refusal) → number_in a ≡ number_in b → a ≡ b
number-in-only None None e = refl
number-in-only None (Some b) e = absurd (number-not-done b (sym e))
number-in-only (Some a) None e = absurd (number-not-done a e)
number-in-only (Some a) (Some b) e = ap Some (number-only a b e)

-- the first refusal and its number tell the same
pub by-number : (rows : List Row) (a : Option Refusal) → first_of rows ≡ number_in a → first_refusal rows ≡ a
by-number rows a e = number-in-only (first_refusal rows) a (number-of-first rows ∙ e)

-- and the other way round
pub to-number : (rows : List Row) (a : Option Refusal) → first_refusal rows ≡ a → first_of rows ≡ number_in a
to-number rows a e = sym (number-of-first rows) ∙ ap number_in e

-- a refusal is the first exactly when its row is the first that holds
pub refusal-exactly : (rows : List Row) (n : Refusal) → (first_refusal rows ≡ Some n) ↔ Given rows n
refusal-exactly rows n = (
  λ e. (first-exactly rows n).0 (to-number rows (Some n) e),
  λ g. by-number rows (Some n) ((first-exactly rows n).1 g),
)

-- and there is none exactly when no row holds
pub none-exactly : (rows : List Row) → (first_refusal rows ≡ None) ↔ NoneHolds rows
none-exactly rows = (
  λ e. (done-exactly rows).0 (to-number rows None e),
  λ g. by-number rows None ((done-exactly rows).1 g),
)

-- there is none, or some refusal is the first
pub none-or-some : (rows : List Row) → (first_refusal rows ≡ None) ⊎ ((n : Refusal) × (first_refusal rows ≡ Some n))
none-or-some [] = inl refl
none-or-some (r ∷ rows) = elim (bool r.when) [
  | inl t ↦ inr (r.gives, rw t refl)
  | inr t ↦ rw t (none-or-some rows)
]

module _ {A : Type 0} (rows : List Row) (made : A) (refused : Refusal → A) where
  -- where nothing is refused it is made
  pub by-made : first_refusal rows ≡ None → outcome_by rows made refused ≡ made
  by-made e = rw e refl

  -- where something is, it is refused with that refusal
  pub by-refused : (n : Refusal) → first_refusal rows ≡ Some n → outcome_by rows made refused ≡ refused n
  by-refused n e = rw e refl

  -- whatever holds of what is made and of every refusal holds of the outcome
  pub by-all : (P : A → Type 0) → P made → ((n : Refusal) → P (refused n)) → P (outcome_by rows made refused)
  by-all P m r = go (first_refusal rows)
    where
      go : (a : Option Refusal) → P (outcome_at a made refused)
      go None = m
      go (Some n) = r n

  module _ (refusal : A → Option Refusal) (made-is : refusal made ≡ None)
      (refused_is : (n : Refusal) → refusal (refused n) ≡ Some n) where
    -- the refusal in it is that of the first row whose test holds
    by-refusal : refusal (outcome_by rows made refused) ≡ first_refusal rows
    by-refusal = go (first_refusal rows)
      where
        go : (a : Option Refusal) → refusal (outcome_at a made refused) ≡ a
        go None = made-is
        go (Some n) = refused_is n

    -- a call whose outcome is made by the order refuses by it
    pub refuses_by : RefusesBy rows (outcome_by rows made refused) refusal made refused
    refuses_by = record {
      refused_exactly = λ n. rw by-refusal (refusal-exactly rows n);
      accepted_exactly = rw by-refusal (none-exactly rows);
      refused_is = λ n e. by-refused n (sym by-refusal ∙ e);
      accepted_is = λ e. by-made (sym by-refusal ∙ e);
      refusal_is = by-refusal;
      by_refusal = by-refused;
      by_none = by-made;
    }

-- two calls whose rows give one refusal, that are made alike and leave the same where refused, have one outcome
pub by-alike : {A : Type 0} (rows rows' : List Row) (made made' : A) (left : Refusal → A)
    → first_refusal rows ≡ first_refusal rows' → (first_refusal rows ≡ None → made ≡ made')
    → outcome_by rows made left ≡ outcome_by rows' made' left
by-alike rows rows' made made' left same alike = elim (none-or-some rows) [
  | inl e ↦ by-made rows made left e ∙ alike e ∙ sym (by-made rows' made' left (sym same ∙ e))
  | inr g ↦ by-refused rows made left g.0 g.1 ∙ sym (by-refused rows' made' left g.0 (sym same ∙ g.1))
]

-- rows and then more rows: the outcome by the first ones, where what is made is the outcome by the others
pub by-joined : {A : Type 0} (rows more : List Row) (made : A) (left : Refusal → A)
    → outcome_by (rows ++ more) made left ≡ outcome_by rows (outcome_by more made left) left
by-joined [] more made left = refl
by-joined (r ∷ rows) more made left = elim (bool r.when) [
  | inl t ↦ rw t refl
  | inr t ↦ rw t (by-joined rows more made left)
]

-- whatever holds of what is made and of everything left holds of the outcome of a call that refuses by an order
pub refuses-by-all : {A : Type 0} {rows : List Row} {outcome : A} {refusal : A → Option Refusal} {made : A}
    {left : Refusal → A} → RefusesBy rows outcome refusal made left → (P : A → Type 0) → P made
    → ((n : Refusal) → P (left n)) → P outcome
refuses-by-all {rows} r P m l = elim (none-or-some rows) [
  | inl e ↦ rw (r.by_none e) m
  | inr g ↦ rw (r.by_refusal g.0 g.1) (l g.0)
]

-- ---- the same by number

-- what is left for a number: what is left for its refusal; where it is no refusal's, what is made
abbrev pub left_at : {A : Type 0} → A → (Refusal → A) → ℕ → A
left_at made left n = outcome_at (refusal_at n) made left

-- that of a refusal's number is what is left for the refusal
left-found : {A : Type 0} (made : A) (left : Refusal → A) (n : Refusal) → left_at made left (number_of n) ≡ left n
left-found made left n = ap (λ a. outcome_at a made left) (refusal-found n)

-- the outcome by the refusal of the first row whose test holds is that by its number
pub outcome-numbered : {A : Type 0} (rows : List Row) (made : A) (left : Refusal → A)
    → outcome_by rows made left ≡ outcome_of rows made (left_at made left)
outcome-numbered rows made left = elim (none-or-some rows) [
  | inl e ↦ by-made rows made left e ∙ sym (outcome-made rows made (left_at made left) (to-number rows None e))
  | inr g ↦
      by-refused rows made left g.0 g.1 ∙ sym (left-found made left g.0)
      ∙ sym (outcome-refused rows made (left_at made left) g.0 (to-number rows (Some g.0) g.1))
]

-- and a call that refuses by the refusal refuses by its number
pub refuses-numbered : {A : Type 0} {rows : List Row} {outcome : A} {refusal : A → Option Refusal} {made : A}
    {left : Refusal → A} → RefusesBy rows outcome refusal made left
    → Refuses rows outcome (λ a. number_in (refusal a)) made (left_at made left)
refuses-numbered {rows = rows} {outcome = outcome} {refusal = refusal} {made = made} {left = left} r =
    let only : (a : Option Refusal) → number_in (refusal outcome) ≡ number_in a → refusal outcome ≡ a =
    number-in-only (refusal outcome) in
    record {
      refused_exactly = λ n. (
        λ e. (r.refused_exactly n).0 (only (Some n) e),
        λ g. ap number_in ((r.refused_exactly n).1 g),
      );
      accepted_exactly = (λ e. r.accepted_exactly.0 (only None e), λ g. ap number_in (r.accepted_exactly.1 g));
      refused_is = λ n e. r.refused_is n (only (Some n) e) ∙ sym (left-found made left n);
      accepted_is = λ e. r.accepted_is (only None e);
      number_is = ap number_in r.refusal_is ∙ number-of-first rows;
      by_refusal = λ n e. r.by_refusal n (by-number rows (Some n) e) ∙ sym (left-found made left n);
      by_none = λ e. r.by_none (by-number rows None e);
    }
