-- What is shown of the calls beside one another: each theorem in full, under a sentence that says it. `front_of k` of a
-- state has its first k shades, three coordinates each, and its members: what a caller lends to a single round.
use Prim.Native.Nat.{ℕ, ◌≤◌, ◌<◌}
use mathlib.Core.Bool.{true, false}
use mathlib.Core.List.{List}
use mathlib.Core.Path.{◌≡◌, refl, sym, ◌∙◌}
use lib.ListN.{get_or, length}
use Rattle.std.specs.Prelude.{Result, Ok, None}
use Rattle.std.specs.Result.{result_err}
use Rattle.number.specs.{sum}
use Rattle.refusal.specs.{Refusal}
use Rattle.table_test.specs.{Record, room_of, bad_table}
use Rattle.method.specs.{most_rounds, colours_of, front_of, to_mean, after, moved_of, begin}
use Rattle.method.proofs.Costs.{to-mean-good}
use Rattle.method.proofs.Rules.{kind-goes}
use Rattle.lloyd_tests.specs.{usual_limit, limit_of}
use Rattle.lloyd_rounds.specs.{Rounded, plain_round, short_round}
use Rattle.lloyd.specs.Calling.{short_calls, lent_start, distances_told, Stays}
use Rattle.lloyd.specs.Outcomes.{RunMeets, AcceptedRun, run_of, left}
use Rattle.lloyd.specs.declared.Ran.{Ran}
use Rattle.lloyd.proofs.Accepted.{by-mean}
use Rattle.lloyd.proofs.Calls as calls
use Rattle.lloyd.proofs.Limits as limits
use Rattle.lloyd.proofs.Used as used

-- ---- the contract

-- Whatever meets the contract of `run` on an input has one answer and one content of each lent slice.
pub run_only : (rec : Record) (ks ws : List ℕ) (k limit : ℕ) (ms ts : List ℕ) {r r' : Result Ran Refusal}
    {x x' t t' : List ℕ}
    → RunMeets (run_of rec ks ws k limit ms ts) r x t → RunMeets (run_of rec ks ws k limit ms ts) r' x' t'
    → (r ≡ r') × (x ≡ x') × (t ≡ t')
run_only rec ks ws k limit ms ts a b =
    (a.answer ∙ sym b.answer, a.members_are ∙ sym b.members_are, a.totals_are ∙ sym b.totals_are)

-- ---- limits

-- A run with limit 0 is the run with limit 100: it is refused alike, or answers the same and leaves the
-- same in members and totals.
pub run-of-usual : (rec : Record) (ks ws : List ℕ) (k : ℕ) (ms ts : List ℕ)
    → run_of rec ks ws k 0 ms ts ≡ run_of rec ks ws k usual_limit ms ts
unfolding run_of
run-of-usual rec ks ws k ms ts = refl

-- A settled run is the run with any other limit that is not below the rounds it made and whose totals are lent: a
-- higher limit changes only runs that are not settled.
pub settled-at-any-limit : {rec : Record} {ks ws : List ℕ} {k limit : ℕ} {ms ts : List ℕ} {r : Ran}
    {members totals : List ℕ} → AcceptedRun rec ks ws k limit ms ts r members totals → r.settled ≡ true
    → (other : ℕ) → r.rounds ≤ limit_of other → other ≤ most_rounds → limit_of other ≤ length ts
    → run_of rec ks ws k other ms ts ≡ run_of rec ks ws k limit ms ts
unfolding run_of
settled-at-any-limit {rec} {ks} {ws} {k} {limit} {ms} {ts} h =
    limits.settled-at-any-limit to_mean to-mean-good rec ks ws k limit ms ts (by-mean h)

-- ---- the used entries

-- A run depends on the used entries alone: with the same record, room for its entries in both tables, and the same used
-- keys and weights, it answers the same, and leaves the same in members and totals.
pub run-of-used : (rec : Record) (ks ws ks' ws' : List ℕ) (k limit : ℕ) (ms ts : List ℕ)
    → rec.used ≤ room_of ks ws → rec.used ≤ room_of ks' ws'
    → ((i : ℕ) → i < rec.used → get_or ks i 0 ≡ get_or ks' i 0)
    → ((i : ℕ) → i < rec.used → get_or ws i 0 ≡ get_or ws' i 0)
    → run_of rec ks ws k limit ms ts ≡ run_of rec ks' ws' k limit ms ts
unfolding run_of
run-of-used = used.run-of-used to_mean (kind-goes false)

-- Of the record it depends on how many entries are used, and on whether the record is true: by two records that use as
-- many and are both BAD TABLE or both not, a run is refused alike, or answers and leaves the same.
pub run-by-truth : (rec rec' : Record) (ks ws : List ℕ) (k limit : ℕ) (ms ts : List ℕ) → rec.used ≡ rec'.used
    → bad_table rec ks ws ≡ bad_table rec' ks ws → run_of rec ks ws k limit ms ts ≡ run_of rec' ks ws k limit ms ts
unfolding run_of
run-by-truth = used.run-by-truth to_mean

module _ {rec : Record} {ks ws : List ℕ} {k limit : ℕ} {ms ts : List ℕ} {r : Ran} {members totals : List ℕ}
    (h : AcceptedRun rec ks ws k limit ms ts r members totals) where
  -- ---- the rounds of a run are calls of short_round

  -- From the run's starting shades and members 0, n calls of `short_round`, each on what the one before left, leave the
  -- shades and members that the run has after n rounds.
  pub calls-are-rounds : (n : ℕ)
      → short_calls rec ks ws (lent_start rec ks ws k ms) n
      ≡ front_of k (after to_mean (colours_of rec.used ks ws) k (begin (colours_of rec.used ks ws) k ms) n)
  calls-are-rounds = calls.calls-are-rounds h

  -- Each of these calls is accepted.
  pub call-accepted : (n : ℕ)
      → result_err (short_round rec ks ws (short_calls rec ks ws (lent_start rec ks ws k ms) n)).answer ≡ None
  call-accepted = calls.call-accepted h

  -- Each answers the total that the run recorded for its round.
  pub call-total : (n : ℕ) → n < r.rounds → (x : Rounded)
      → (short_round rec ks ws (short_calls rec ks ws (lent_start rec ks ws k ms) n)).answer ≡ Ok x
      → x.total ≡ get_or totals n 0
  call-total = calls.call-total h

  -- And the number of shades that the round moves, by which the run ends.
  pub call-moved : (n : ℕ) (x : Rounded)
      → (short_round rec ks ws (short_calls rec ks ws (lent_start rec ks ws k ms) n)).answer ≡ Ok x
      → x.moved
      ≡ moved_of to_mean (colours_of rec.used ks ws) k
      (after to_mean (colours_of rec.used ks ws) k (begin (colours_of rec.used ks ws) k ms) n)
  call-moved = calls.call-moved h

  -- The distances that the calls answer add up to the run's.
  pub calls-distances : sum r.rounds (λ n. distances_told
      (short_round rec ks ws (short_calls rec ks ws (lent_start rec ks ws k ms) n)).answer) ≡ r.distances
  calls-distances = calls.calls-distances h

  -- As many calls as the run made rounds leave the shades it answers and the members it leaves.
  pub calls-leave : short_calls rec ks ws (lent_start rec ks ws k ms) r.rounds ≡ front_of k (left r members)
  calls-leave = calls.calls-leave h

  -- ---- a settled run is a fixed point

  -- Where the run is settled, `short_round` on what it leaves is accepted, moves no shade, changes no coordinate and no
  -- member, and answers the final total.
  pub settled-short : r.settled ≡ true
      → Stays (short_round rec ks ws (front_of k (left r members))) (front_of k (left r members)) r.total
  settled-short = calls.settled-short h

  -- And so does `plain_round`.
  pub settled_plain : r.settled ≡ true
      → Stays (plain_round rec ks ws (front_of k (left r members))) (front_of k (left r members)) r.total
  settled_plain = calls.settled_plain h
