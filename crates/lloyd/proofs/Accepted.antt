-- What every accepted run is, of either kind: a run that is made by its rule from the starting shades, of which the
-- laws of `Made` speak; and where it begins, which is told from the tests alone.
use Prim.Native.Nat.{ℕ, ◌+◌, ◌<◌}
use mathlib.Core.List.{List}
use mathlib.Core.Path.{◌≡◌, sym, ◌∙◌}
use native.Mathlib.Omega.{arith}
use Rattle.table_test.specs.{Record, GoodTable}
use Rattle.table_test.proofs.Promises.{bad-table-exactly}
use Rattle.shades.specs.{shade_at, colour_at}
use Rattle.method.specs.{
  Rule,
  GoodRule,
  colours_of,
  pixels_in,
  mean_of,
  on_mean,
  to_mean,
  leap_to,
  begin,
  Joined,
}
use Rattle.method.proofs.Begins.{begin-joined, mean-low}
use Rattle.method.proofs.Costs.{to-mean-good}
use Rattle.method.proofs.Covers.{unlike-at-least}
use Rattle.method.proofs.Rules.{leap-to-good}
use Rattle.method.proofs.Sizes.{fair-of-table}
use Rattle.starts.specs.{mean_by_sums}
use Rattle.rounds.specs.{Runnable}
use Rattle.rounds.proofs.Records.{mean-of-record}
use Rattle.lloyd_tests.specs.{limit_of}
use Rattle.lloyd_tests.proofs.Promises.{few-colours-exactly}
use Rattle.lloyd_refusal.specs.{run_rows}
use Rattle.lloyd.specs.Beginning.{FarthestColour}
use Rattle.lloyd.specs.Outcomes.{AcceptedBy, AcceptedRun, AcceptedJancey, run_with, run_of, jancey_run}
use Rattle.lloyd.specs.declared.Ran.{Ran}
use Rattle.lloyd.proofs.Beginnings as beginnings
use Rattle.lloyd.proofs.By.{accepted-done, making-by}
use Rattle.lloyd.proofs.Made.{Making}
use Rattle.lloyd.proofs.Wholes.{RunGood, with-refuses, run-good, runnable}

-- ---- what the tests tell

module _ {rec : Record} {ks ws : List ℕ} {k limit : ℕ} {ms ts : List ℕ} (g : RunGood rec ks ws k limit ms ts) where
  -- the run can be made
  able : Runnable rec.used ks ws k (limit_of limit) ms ts
  able = runnable rec ks ws k limit ms ts g

  -- the record is the table's
  table_is : GoodTable rec ks ws
  table_is = (bad-table-exactly rec ks ws).0 g.table

  -- shade 0 is the rounded mean of the table
  pub first-is-mean : shade_at (begin (colours_of rec.used ks ws) k ms).coordinates 0
      ≡ mean_of (colours_of rec.used ks ws)
  first-is-mean =
      beginnings.start-is-given table_is (on_mean (colours_of rec.used ks ws)) k ms able.few 0 able.some
      (omega arith)

  -- as the record's sums give it
  pub first-by-sums : shade_at (begin (colours_of rec.used ks ws) k ms).coordinates 0
      ≡ mean_by_sums rec.pixels rec.red rec.green rec.blue
  first-by-sums = first-is-mean ∙ sym (mean-of-record table_is)

  -- each next one is the farthest colour from those before it
  pub start-is-farthest : (q : ℕ) → q + 1 < k
      → FarthestColour rec.used ks (begin (colours_of rec.used ks ws) k ms).coordinates (q + 1)
      (shade_at (begin (colours_of rec.used ks ws) k ms).coordinates (q + 1))
  start-is-farthest q l =
      beginnings.start-is-farthest table_is (on_mean (colours_of rec.used ks ws)) k ms able.few (q + 1)
      able.colours (omega arith) l (omega arith)

  -- no two stand in one place
  pub starts-differ : (p q : ℕ) → p < q → q < k
      → ¬ (shade_at (begin (colours_of rec.used ks ws) k ms).coordinates p
      ≡ shade_at (begin (colours_of rec.used ks ws) k ms).coordinates q)
  starts-differ p q l h =
      let C = colours_of rec.used ks ws in
      let all_but_one = unlike-at-least rec.used (colour_at ks) (beginnings.colours-differ table_is)
      (begin C k ms).coordinates 1 (omega arith) in
      beginnings.starts-differ table_is (on_mean C) k ms able.few p q
      (omega (arith, (few-colours-exactly rec k).0 g.colours, all_but_one)) l h (omega arith)

  -- the record's pixels are those of the colours
  pub pixels_are : rec.pixels ≡ pixels_in (colours_of rec.used ks ws)
  pixels_are = table_is.pixels

  -- every colour begins in a shade
  pub joined : Joined (colours_of rec.used ks ws) k (begin (colours_of rec.used ks ws) k ms)
  joined =
      let C = colours_of rec.used ks ws in
      begin-joined (on_mean C) C k ms able.some able.members_room

-- ---- a run by any good rule

module _ (rule : Rule) (good : GoodRule rule) (rec : Record) (ks ws : List ℕ) (k limit : ℕ) (ms ts : List ℕ) {r : Ran}
    {members totals : List ℕ} (h : AcceptedBy (run_with rule rec ks ws k limit ms ts) r members totals) where
  -- its tests failed
  pub with-tests : RunGood rec ks ws k limit ms ts
  with-tests =
      run-good rec ks ws k limit ms ts
      ((with-refuses rec ks ws k limit ms ts rule).accepted_exactly.0 (accepted-done h))

  -- and it is made from the starting shades
  pub with-making : Making rule (colours_of rec.used ks ws) k (limit_of limit)
      (begin (colours_of rec.used ks ws) k ms) ts r members totals
  with-making =
      let C = colours_of rec.used ks ws in
      let a = able with-tests in
      making-by (run_rows rec ks ws k limit ms ts) rule (on_mean C) limit h a good
      (mean-low C (fair-of-table a.table) a.pixels)

-- ---- a run, by Lloyd's rule

module _ {rec : Record} {ks ws : List ℕ} {k limit : ℕ} {ms ts : List ℕ} {r : Ran} {members totals : List ℕ}
    (h : AcceptedRun rec ks ws k limit ms ts r members totals) where
  -- it is one by its rule
  pub by-mean : AcceptedBy (run_with to_mean rec ks ws k limit ms ts) r members totals
  unfolding run_of
  by-mean = record { meets = h.meets }

  -- its tests failed
  pub tests : RunGood rec ks ws k limit ms ts
  tests = with-tests to_mean to-mean-good rec ks ws k limit ms ts by-mean

  -- and it is made
  pub making : Making to_mean (colours_of rec.used ks ws) k (limit_of limit)
      (begin (colours_of rec.used ks ws) k ms) ts r members totals
  making = with-making to_mean to-mean-good rec ks ws k limit ms ts by-mean

-- ---- Jancey's run

module _ {rec : Record} {ks ws : List ℕ} {k limit : ℕ} {ms ts : List ℕ} {r : Ran} {members totals : List ℕ}
    (h : AcceptedJancey rec ks ws k limit ms ts r members totals) where
  -- it is one by its rule
  pub by-leaps : AcceptedBy (run_with leap_to rec ks ws k limit ms ts) r members totals
  unfolding jancey_run
  by-leaps = record { meets = h.meets }

  -- its tests failed
  pub jancey-tests : RunGood rec ks ws k limit ms ts
  jancey-tests = with-tests leap_to leap-to-good rec ks ws k limit ms ts by-leaps

  -- and it is made
  pub jancey-making : Making leap_to (colours_of rec.used ks ws) k (limit_of limit)
      (begin (colours_of rec.used ks ws) k ms) ts r members totals
  jancey-making = with-making leap_to leap-to-good rec ks ws k limit ms ts by-leaps
