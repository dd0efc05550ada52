-- What rounds one after the other leave and answer.
use Rattle.std.specs.Prelude.{ℕ, Bool, List, ◌≡◌, ltb}
use Rattle.number.specs.{sum, fill, first_that}
use Rattle.method.specs.{Colours, State, Rule, after, quiet, total_of, short_distances, rounds_made}

-- from state a to state z: rounds of the rule to the first quiet one or the limit, each total stored, all distances
-- added up, and whether one was quiet
pub record SeriesMeets (rule : Rule) (C : Colours) (k limit : ℕ) (a z : State) (before totals : List ℕ)
    (rounds : ℕ) (settled : Bool) (distances : ℕ) : Type 0 where
  pub rounds_is : rounds ≡ rounds_made limit (quiet rule C k a)
  pub state : z ≡ after rule C k a (rounds_made limit (quiet rule C k a))
  pub totals_is :
      totals ≡ fill (rounds_made limit (quiet rule C k a)) (λ r. total_of C k (after rule C k a r)) before
  pub settled_is : settled ≡ ltb (first_that limit (quiet rule C k a)) limit
  pub distances_is :
      distances ≡ sum (rounds_made limit (quiet rule C k a)) (λ r. short_distances C k (after rule C k a r))
