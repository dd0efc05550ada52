-- What a run leaves: the answer, and both lent slices, on every input.
use Rattle.std.specs.Prelude.{ℕ, List, ◌≡◌, ltb, Result, Ok, Err}
use Rattle.number.specs.{sum, fill, first_that}
use Rattle.refusal.specs.{Row, Refusal, outcome_by}
use Rattle.table_test.specs.{Record}
use Rattle.method.specs.{
  Rule,
  Base,
  Colours,
  State,
  colours_of,
  to_mean,
  leap_to,
  after,
  quiet,
  total_of,
  final_of,
  short_distances,
  on_mean,
  begin_from,
  rounds_made,
}
use Rattle.lloyd_tests.specs.{limit_of}
use Rattle.lloyd_refusal.specs.{run_rows}
use Rattle.lloyd.specs.declared.Ran.{Ran}

-- the answer, and the lent members and totals at exit
pub record RunOutcome : Type 0 where
  pub answer : Result Ran Refusal
  pub members : List ℕ
  pub totals : List ℕ

-- that of a refusal: its error, and no slice changes
abbrev pub kept_run : List ℕ → List ℕ → Refusal → RunOutcome
kept_run ms ts n = record { answer = Err n; members = ms; totals = ts }

-- rounds of the rule from state a, to the first quiet one or the limit: the shades they leave, the rounds made, settled
-- or not, the summed distances, and the last grouping against the final shades
abbrev pub made_ran : Rule → Colours → ℕ → ℕ → State → Ran
made_ran rule C k limit a = record {
  shades = (after rule C k a (rounds_made limit (quiet rule C k a))).coordinates;
  rounds = rounds_made limit (quiet rule C k a);
  settled = ltb (first_that limit (quiet rule C k a)) limit;
  distances = sum (rounds_made limit (quiet rule C k a)) (λ r. short_distances C k (after rule C k a r));
  total = final_of C (after rule C k a (rounds_made limit (quiet rule C k a)));
}

-- these rounds, with the members they leave, and each round's total over the front of the totals
abbrev pub made_run : Rule → Colours → ℕ → ℕ → State → List ℕ → RunOutcome
made_run rule C k limit a totals = record {
  answer = Ok (made_ran rule C k limit a);
  members = (after rule C k a (rounds_made limit (quiet rule C k a))).members;
  totals = fill (rounds_made limit (quiet rule C k a)) (λ r. total_of C k (after rule C k a r)) totals;
}

-- the whole outcome of a run by a rule from given shades, where the rows say what refuses it: it begins with the
-- starting shades and every colour in shade 0
abbrev pub run_by : List Row → Rule → Base → Colours → ℕ → ℕ → List ℕ → List ℕ → RunOutcome
run_by rows rule B C k limit ms ts =
    outcome_by rows (made_run rule C k (limit_of limit) (begin_from B C k ms) ts) (kept_run ms ts)

-- that of a run by a rule from the table's mean, refused by the rows of a run
abbrev pub run_with : Rule → Record → List ℕ → List ℕ → ℕ → ℕ → List ℕ → List ℕ → RunOutcome
run_with rule rec ks ws k limit ms ts =
    run_by (run_rows rec ks ws k limit ms ts) rule (on_mean (colours_of rec.used ks ws)) (colours_of rec.used ks ws)
    k limit ms ts

-- the whole outcome of a run: by Lloyd's rule
unfoldable pub run_of : Record → List ℕ → List ℕ → ℕ → ℕ → List ℕ → List ℕ → RunOutcome
run_of = run_with to_mean

-- and that of Jancey's run: like a run in everything but where a shade with a group moves
unfoldable pub jancey_run : Record → List ℕ → List ℕ → ℕ → ℕ → List ℕ → List ℕ → RunOutcome
jancey_run = run_with leap_to

-- the contract: answer and slices are those of the outcome
pub record RunMeets (o : RunOutcome) (r : Result Ran Refusal) (members totals : List ℕ) : Type 0 where
  pub answer : r ≡ o.answer
  pub members_are : members ≡ o.members
  pub totals_are : totals ≡ o.totals

-- this answer and these slices are those of a run of this outcome, and it is accepted
pub record AcceptedBy (o : RunOutcome) (r : Ran) (members totals : List ℕ) : Type 0 where
  pub meets : RunMeets o (Ok r) members totals

-- this answer and these slices are those of a run that is accepted
pub record AcceptedRun (rec : Record) (ks ws : List ℕ) (k limit : ℕ) (ms ts : List ℕ) (r : Ran)
    (members totals : List ℕ) : Type 0 where
  pub meets : RunMeets (run_of rec ks ws k limit ms ts) (Ok r) members totals

-- and those of a Jancey run that is accepted
pub record AcceptedJancey (rec : Record) (ks ws : List ℕ) (k limit : ℕ) (ms ts : List ℕ) (r : Ran)
    (members totals : List ℕ) : Type 0 where
  pub meets : RunMeets (jancey_run rec ks ws k limit ms ts) (Ok r) members totals

-- the shades and the members that a run leaves
abbrev pub left : Ran → List ℕ → State
left r members = record { coordinates = r.shades; members = members }
