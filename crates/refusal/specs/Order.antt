-- The order in which a call refuses: a list of rows, each a test and the refusal given for it. The first row whose test
-- holds is the one answered.
use Rattle.std.specs.Prelude.{ℕ, ◌≡◌, Bool, true, false, cond, List, [], ◌∷◌, Option, None, Some, ◌⊎◌, eqb}
use Rattle.refusal.specs.Numbers.{Refusal, number_of, done}

-- a row of the table of refusals: the test, which is its "exactly when", and the refusal
pub record Row : Type 0 where
  pub when : Bool
  pub gives : Refusal

-- the row of this test and this refusal
abbrev pub row : Bool → Refusal → Row
row test refusal = record { when = test; gives = refusal }

-- the refusal of the first row whose test holds; none where none does, as in an empty order
abbrev pub first_refusal : List Row → Option Refusal
first_refusal [] = None
first_refusal (r ∷ rows) = cond r.when (Some r.gives) (first_refusal rows)

-- the number of the first row whose test holds; `done` where none does, as in an empty order
abbrev pub first_of : List Row → ℕ
first_of [] = done
first_of (r ∷ rows) = cond r.when (number_of r.gives) (first_of rows)

-- the outcome of a call that refuses by these rows: where no test holds what is `made`, else what `refused` says for
-- the number of the first row whose test holds
abbrev pub outcome_of : {A : Type 0} → List Row → A → (ℕ → A) → A
outcome_of rows made refused = cond (eqb (first_of rows) done) made (refused (first_of rows))

-- the outcome of a call that refuses so: where there is no refusal what is `made`, else what `refused` says for it
abbrev pub outcome_at : {A : Type 0} → Option Refusal → A → (Refusal → A) → A
outcome_at None made refused = made
outcome_at (Some n) made refused = refused n

-- the outcome of a call that refuses by these rows: where no test holds what is `made`, else what `refused` says for
-- the refusal of the first row whose test holds
abbrev pub outcome_by : {A : Type 0} → List Row → A → (Refusal → A) → A
outcome_by rows made refused = outcome_at (first_refusal rows) made refused

-- this refusal is that of the first row whose test holds: the row's test holds, and no test of a row before it does
abbrev pub Given : List Row → Refusal → Type 0
Given [] refusal = ⊥
Given (r ∷ rows) refusal = ((r.when ≡ true) × (r.gives ≡ refusal)) ⊎ ((r.when ≡ false) × Given rows refusal)

-- no row's test holds
abbrev pub NoneHolds : List Row → Type 0
NoneHolds [] = Unit {0}
NoneHolds (r ∷ rows) = (r.when ≡ false) × NoneHolds rows
