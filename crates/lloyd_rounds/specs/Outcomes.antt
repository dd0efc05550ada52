-- The outcome of a single round: the answer, and both lent slices at exit.
use Rattle.std.specs.Prelude.{ℕ, ◌/◌, List, ◌≡◌, length, Result, Ok, Err}
use Rattle.refusal.specs.{Refusal, outcome_by}
use Rattle.table_test.specs.{Record}
use Rattle.method.specs.{
  Rule,
  Colours,
  State,
  colours_of,
  to_mean,
  step,
  total_of,
  moved_of,
  plain_distances,
  short_distances,
}
use Rattle.lloyd_rounds.specs.Refusals.{plain_rows, short_rows}
use Rattle.lloyd_rounds.specs.declared.Rounded.{Rounded}

-- the answer, and the lent coordinates and members at exit
pub record RoundOutcome : Type 0 where
  pub answer : Result Rounded Refusal
  pub state : State

-- a round of the rule on k shades, with the distances that a round of its kind works out
abbrev pub made_round : Rule → Colours → ℕ → State → (Colours → ℕ → State → ℕ) → RoundOutcome
made_round rule C k a distances = record {
  answer = Ok (record {
    total = total_of C k a;
    moved = moved_of rule C k a;
    distances = distances C k a;
  });
  state = step rule C k a;
}

-- that of a refusal: its error, and no slice changes
abbrev pub kept_round : State → Refusal → RoundOutcome
kept_round a n = record { answer = Err n; state = a }

-- the whole outcome of a plain round: a third of the coordinates lent is the count of shades
unfoldable pub plain_round : Record → List ℕ → List ℕ → State → RoundOutcome
plain_round rec ks ws a =
    outcome_by (plain_rows rec ks ws a)
    (made_round to_mean (colours_of rec.used ks ws) (length a.coordinates / 3) a plain_distances) (kept_round a)

-- the whole outcome of a shortened round
unfoldable pub short_round : Record → List ℕ → List ℕ → State → RoundOutcome
short_round rec ks ws a =
    outcome_by (short_rows rec ks ws a)
    (made_round to_mean (colours_of rec.used ks ws) (length a.coordinates / 3) a short_distances) (kept_round a)

-- the contract: answer and slices are those of the outcome
pub record RoundMeets (o : RoundOutcome) (r : Result Rounded Refusal) (coordinates members : List ℕ) : Type 0 where
  pub answer : r ≡ o.answer
  pub coordinates_are : coordinates ≡ o.state.coordinates
  pub members_are : members ≡ o.state.members
