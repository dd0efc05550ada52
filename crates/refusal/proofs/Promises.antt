-- What is shown of the refusals, for whoever cites them. Each body names the proof.
use Prim.Native.Nat.{ℕ, ◌≤◌}
use mathlib.Core.Path.{◌≡◌}
use mathlib.Core.List.{List}
use mathlib.Core.Logic.{◌↔◌, ◌⊎◌}
use Rattle.std.specs.Prelude.{Option, None, Some}
use Rattle.refusal.specs.Numbers.{Refusal, number_of, done, number_in}
use Rattle.refusal.specs.Order.{Row, first_refusal, first_of, outcome_of, outcome_by, Given, NoneHolds}
use Rattle.refusal.specs.Calls.{Refuses, RefusesBy}
use Rattle.refusal.proofs.By as by
use Rattle.refusal.proofs.By.{left_at}
use Rattle.refusal.proofs.Numbers as numbers
use Rattle.refusal.proofs.Order as order
use Rattle.refusal.proofs.Outcomes as outcomes

-- Two refusals of one number are one refusal.
pub number-only : (a b : Refusal) → number_of a ≡ number_of b → a ≡ b
number-only = numbers.number-only

-- No refusal has the number that says "done".
pub number-not-done : (a : Refusal) → ¬ (number_of a ≡ done)
number-not-done = numbers.number-not-done

-- The numbers go up to 18.
pub number-most : (a : Refusal) → number_of a ≤ 18
number-most = numbers.number-most

-- A refusal's number is answered exactly when its row is the first whose test holds.
pub first-exactly : (rows : List Row) (n : Refusal) → (first_of rows ≡ number_of n) ↔ Given rows n
first-exactly = order.first-exactly

-- "Done" is answered exactly when no row's test holds.
pub done-exactly : (rows : List Row) → (first_of rows ≡ done) ↔ NoneHolds rows
done-exactly = order.done-exactly

-- At most one refusal is that of the first row whose test holds.
pub given-only : (rows : List Row) (a b : Refusal) → Given rows a → Given rows b → a ≡ b
given-only = order.given-only

-- Either no row's test holds, or some refusal is that of the first row whose test holds.
pub none-or-given : (rows : List Row) → NoneHolds rows ⊎ ((n : Refusal) × Given rows n)
none-or-given = order.none-or-given

-- The answer is always "done" or the number of some refusal.
pub done-or-refusal : (rows : List Row) → (first_of rows ≡ done) ⊎ ((n : Refusal) × (first_of rows ≡ number_of n))
done-or-refusal = order.done-or-refusal

-- A call whose outcome is made by an order refuses by it: what every call owes, from its rows and its outcome.
pub refuses : {A : Type 0} (rows : List Row) (made : A) (left : ℕ → A) (number : A → ℕ) → number made ≡ done
    → ((n : ℕ) → number (left n) ≡ n) → Refuses rows (outcome_of rows made left) number made left
refuses = outcomes.refuses

-- Whatever holds of what is made and of everything left holds of the outcome of a call that refuses by an order.
pub refuses-all : {A : Type 0} {rows : List Row} {outcome : A} {number : A → ℕ} {made : A} {left : ℕ → A}
    → Refuses rows outcome number made left → (P : A → Type 0) → P made → ((n : Refusal) → P (left (number_of n)))
    → P outcome
refuses-all = outcomes.refuses-all

-- A refusal is the first exactly when its row is the first whose test holds.
pub first-refusal-exactly : (rows : List Row) (n : Refusal) → (first_refusal rows ≡ Some n) ↔ Given rows n
first-refusal-exactly = by.refusal-exactly

-- There is no first refusal exactly when no row's test holds.
pub no-refusal-exactly : (rows : List Row) → (first_refusal rows ≡ None) ↔ NoneHolds rows
no-refusal-exactly = by.none-exactly

-- The number that stands for the first refusal or none is that of the first row whose test holds.
pub first-number : (rows : List Row) → number_in (first_refusal rows) ≡ first_of rows
first-number = by.number-of-first

-- That number tells which refusal it is, or that there is none.
pub number-in-only : (a b : Option Refusal) → number_in a ≡ number_in b → a ≡ b
number-in-only = by.number-in-only

-- A call whose outcome is made by an order refuses by it, where the outcome has the refusal itself.
pub refuses-by : {A : Type 0} (rows : List Row) (made : A) (left : Refusal → A) (refusal : A → Option Refusal)
    → refusal made ≡ None → ((n : Refusal) → refusal (left n) ≡ Some n)
    → RefusesBy rows (outcome_by rows made left) refusal made left
refuses-by = by.refuses_by

-- Whatever holds of what is made and of everything left holds of the outcome of such a call.
pub refuses-by-all : {A : Type 0} {rows : List Row} {outcome : A} {refusal : A → Option Refusal} {made : A}
    {left : Refusal → A} → RefusesBy rows outcome refusal made left → (P : A → Type 0) → P made
    → ((n : Refusal) → P (left n)) → P outcome
refuses-by-all = by.refuses-by-all

-- The outcome by the first refusal is that by its number: what is left for a number is what is left for its refusal.
pub outcome-numbered : {A : Type 0} (rows : List Row) (made : A) (left : Refusal → A)
    → outcome_by rows made left ≡ outcome_of rows made (left_at made left)
outcome-numbered = by.outcome-numbered

-- So a call that refuses by an order and has the refusal itself refuses by that order by number too.
pub refuses-numbered : {A : Type 0} {rows : List Row} {outcome : A} {refusal : A → Option Refusal} {made : A}
    {left : Refusal → A} → RefusesBy rows outcome refusal made left
    → Refuses rows outcome (λ a. number_in (refusal a)) made (left_at made left)
refuses-numbered = by.refuses-numbered
