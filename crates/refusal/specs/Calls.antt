-- What it is for a call to refuse by an order: the one interface of every call that has refusals.
use Rattle.std.specs.Prelude.{ℕ, List, Option, None, Some, ◌↔◌, ◌≡◌}
use Rattle.refusal.specs.Numbers.{Refusal, number_of, done}
use Rattle.refusal.specs.Order.{Row, first_refusal, first_of, Given, NoneHolds}

-- a call refuses by these rows: `outcome` is what it leaves, with the number that `number` reads in it; it is `made`
-- where no row's test holds, and what `left` says for the number of the first row whose test holds. What is left may
-- depend on the number, as that of a full table does
pub record Refuses {A : Type 0} (rows : List Row) (outcome : A) (number : A → ℕ) (made : A) (left : ℕ → A)
    : Type 0 where
  -- each refusal is given exactly when its row is the first that holds
  pub refused_exactly : (n : Refusal) → (number outcome ≡ number_of n) ↔ Given rows n
  -- and none exactly when no row holds
  pub accepted_exactly : (number outcome ≡ done) ↔ NoneHolds rows
  -- a refused call leaves what is left for its number
  pub refused_is : (n : Refusal) → number outcome ≡ number_of n → outcome ≡ left (number_of n)
  -- an accepted one leaves what is made
  pub accepted_is : number outcome ≡ done → outcome ≡ made
  -- the same by what the rows say: the number is that of the first that holds
  pub number_is : number outcome ≡ first_of rows
  pub by_refusal : (n : Refusal) → first_of rows ≡ number_of n → outcome ≡ left (number_of n)
  pub by_none : first_of rows ≡ done → outcome ≡ made

-- a call refuses by these rows: `outcome` is what it leaves, with the refusal that `refusal` reads in it; it is `made`
-- where no row's test holds, and what `left` says for the refusal of the first row whose test holds. What is left may
-- depend on the refusal, as that of a full table does
pub record RefusesBy {A : Type 0} (rows : List Row) (outcome : A) (refusal : A → Option Refusal) (made : A)
    (left : Refusal → A) : Type 0 where
  -- each refusal is given exactly when its row is the first that holds
  pub refused_exactly : (n : Refusal) → (refusal outcome ≡ Some n) ↔ Given rows n
  -- and none exactly when no row holds
  pub accepted_exactly : (refusal outcome ≡ None) ↔ NoneHolds rows
  -- a refused call leaves what is left for its refusal
  pub refused_is : (n : Refusal) → refusal outcome ≡ Some n → outcome ≡ left n
  -- an accepted one leaves what is made
  pub accepted_is : refusal outcome ≡ None → outcome ≡ made
  -- the same by what the rows say: the refusal is that of the first that holds
  pub refusal_is : refusal outcome ≡ first_refusal rows
  pub by_refusal : (n : Refusal) → first_refusal rows ≡ Some n → outcome ≡ left n
  pub by_none : first_refusal rows ≡ None → outcome ≡ made
