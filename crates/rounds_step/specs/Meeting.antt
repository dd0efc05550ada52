-- What a round asks, and what it leaves and answers.
use Rattle.std.specs.Prelude.{ℕ, ◌<◌, List, ◌≡◌, get_or}
use Rattle.table_entries.specs.{Tabled}
use Rattle.method.specs.{Colours, State, Fit, colours_of, Rule, step, total_of, moved_of}

-- a table, and a state fit for a round on it
pub record Steppable (used : ℕ) (ks ws : List ℕ) (k : ℕ) (a : State) : Type 0 where
  pub table : Tabled used ks ws
  pub fit : Fit (colours_of used ks ws) k a

-- and each member is a shade's number
pub record Walkable (used : ℕ) (ks ws : List ℕ) (k : ℕ) (a : State) : Type 0 where
  pub steppable : Steppable used ks ws k a
  pub joined : (i : ℕ) → i < used → get_or a.members i 0 < k

-- from state a to state z: a round of the rule, with its total, the shades moved and the distances worked out
pub record StepMeets (rule : Rule) (C : Colours) (k : ℕ) (distances : State → ℕ) (a z : State)
    (total moved counted : ℕ) : Type 0 where
  pub state : z ≡ step rule C k a
  pub total_is : total ≡ total_of C k a
  pub moved_is : moved ≡ moved_of rule C k a
  pub distances_is : counted ≡ distances a
