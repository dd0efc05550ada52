-- The rounds of a run as a caller of single rounds makes them.
use Rattle.std.specs.Prelude.{ℕ, zero, suc, List, ◌≡◌, Result, Ok, Err}
use Rattle.refusal.specs.{Refusal}
use Rattle.table_test.specs.{Record}
use Rattle.method.specs.{State, colours_of, front_of, begin}
use Rattle.lloyd_rounds.specs.{Rounded, RoundOutcome, short_round}

-- what r calls of `short_round` leave in the lent coordinates and members, each on what the one before left
unfoldable pub short_calls : Record → List ℕ → List ℕ → State → ℕ → State
short_calls rec ks ws a zero = a
short_calls rec ks ws a (suc r) = (short_round rec ks ws (short_calls rec ks ws a r)).state

-- where a run of k shades begins, lent to single rounds: its starting shades, three coordinates each, and every colour
-- in shade 0
abbrev pub lent_start : Record → List ℕ → List ℕ → ℕ → List ℕ → State
lent_start rec ks ws k ms = front_of k (begin (colours_of rec.used ks ws) k ms)

-- a round on state a is accepted and changes nothing: coordinates and members stay as they came, no shade moves, and
-- the answer holds this total
pub record Stays (o : RoundOutcome) (a : State) (total : ℕ) : Type 0 where
  pub answered : Rounded
  pub accepted : o.answer ≡ Ok answered
  pub state_is : o.state ≡ a
  pub moved_none : answered.moved ≡ 0
  pub total_is : answered.total ≡ total

-- the distances that the answer of a round tells, none where it is refused
abbrev pub distances_told : Result Rounded Refusal → ℕ
distances_told (Ok r) = r.distances
distances_told (Err n) = 0
