-- The outcome of a run: refused or made, and what every accepted run leaves and answers.
use Prim.Native.Nat.{ℕ}
use mathlib.Core.Bool.{false}
use mathlib.Core.List.{List}
use mathlib.Core.Path.{◌≡◌, sym, ◌∙◌}
use native.Mathlib.Omega.{arith}
use lib.ListN.{length}
use borrow.Author.Tests.{ltb-false}
use Rattle.number.proofs.Cases.{neither}
use Rattle.std.specs.Prelude.{None}
use Rattle.std.specs.Result.{result_err}
use Rattle.refusal.specs.{first_refusal, NoneHolds, RefusesBy}
use Rattle.refusal.proofs.By.{none-exactly}
use Rattle.table_test.specs.{Record, bad_table, GoodTable}
use Rattle.table_test.proofs.Promises.{bad-table-exactly}
use Rattle.method.specs.{Rule, Colours, colours_of, to_mean, leap_to, on_mean, begin, most_rounds}
use Rattle.rounds.specs.{Runnable}
use Rattle.lloyd_tests.specs.{limit_of, bad_count, few_colours, bad_limit, short_members, short_totals}
use Rattle.lloyd_refusal.specs.{run_rows}
use Rattle.lloyd.specs.Outcomes.{kept_run, made_run, run_with, run_of, jancey_run}
use Rattle.lloyd.proofs.By.{by-refuses}
use Rattle.lloyd_tests.proofs.Checks.{bad-count-exactly, limit_some, limit_most}
use Rattle.lloyd_tests.proofs.Tables.{tabled-of-test, pixels-of-test}

module _ (rec : Record) (ks ws : List ℕ) (k limit : ℕ) (ms ts : List ℕ) where
  -- the colours of the table
  abbrev C : Colours
  C = colours_of rec.used ks ws

  -- ---- refused or made

  module _ (rule : Rule) where
    -- a run by a rule refuses by its rows: it is made, or its error, and no slice changes
    pub with-refuses : RefusesBy (run_rows rec ks ws k limit ms ts) (run_with rule rec ks ws k limit ms ts)
        (λ o. result_err o.answer)
        (made_run rule (colours_of rec.used ks ws) k (limit_of limit) (begin (colours_of rec.used ks ws) k ms) ts)
        (kept_run ms ts)
    with-refuses = by-refuses (run_rows rec ks ws k limit ms ts) rule (on_mean C) C k limit ms ts

  -- a run, by Lloyd's rule
  pub run-refuses : RefusesBy (run_rows rec ks ws k limit ms ts) (run_of rec ks ws k limit ms ts)
      (λ o. result_err o.answer)
      (made_run to_mean (colours_of rec.used ks ws) k (limit_of limit) (begin (colours_of rec.used ks ws) k ms) ts)
      (kept_run ms ts)
  unfolding run_of
  run-refuses = with-refuses to_mean

  -- and Jancey's
  pub jancey-refuses : RefusesBy (run_rows rec ks ws k limit ms ts) (jancey_run rec ks ws k limit ms ts)
      (λ o. result_err o.answer)
      (made_run leap_to (colours_of rec.used ks ws) k (limit_of limit) (begin (colours_of rec.used ks ws) k ms) ts)
      (kept_run ms ts)
  unfolding jancey_run
  jancey-refuses = with-refuses leap_to

  -- on every input both have one refusal or none: a rule decides nothing of it
  pub same-refusal : result_err (jancey_run rec ks ws k limit ms ts).answer
      ≡ result_err (run_of rec ks ws k limit ms ts).answer
  same-refusal = jancey-refuses.refusal_is ∙ sym run-refuses.refusal_is

  -- ---- what the tests give

  -- the tests of a run fail
  pub record RunGood : Type 0 where
    pub table : bad_table rec ks ws ≡ false
    pub count : bad_count k ≡ false
    pub colours : few_colours rec k ≡ false
    pub limited : bad_limit limit ≡ false
    pub members : short_members rec ms ≡ false
    pub totals : short_totals limit ts ≡ false

  -- then the run can be made
  pub runnable : RunGood → Runnable rec.used ks ws k (limit_of limit) ms ts
  runnable g =
      let some = (bad-count-exactly k).0 g.count in
      let colours = ltb-false rec.used k g.colours in
      record {
        table = tabled-of-test rec ks ws g.table;
        pixels = pixels-of-test rec ks ws g.table (omega (arith, some.0));
        some = some.0;
        few = some.1;
        colours = omega (arith, some.0);
        limit_some = limit_some limit;
        limit_most = limit_most limit most_rounds (omega arith) (ltb-false most_rounds limit g.limited);
        members_room = ltb-false (length ms) rec.used g.members;
        totals_room = ltb-false (length ts) (limit_of limit) g.totals;
      }

  -- a run whose rows do not hold passes its tests
  pub run-good : NoneHolds (run_rows rec ks ws k limit ms ts) → RunGood
  run-good h =
      let room = neither (short_members rec ms) (short_totals limit ts) h.1.1.1.1.0 in
      record {
        table = h.0;
        count = h.1.0;
        colours = h.1.1.0;
        limited = h.1.1.1.0;
        members = room.0;
        totals = room.1;
      }

  -- and where no row holds the record is the table's
  pub table-of-none : first_refusal (run_rows rec ks ws k limit ms ts) ≡ None → GoodTable rec ks ws
  table-of-none e =
      (bad-table-exactly rec ks ws).0 (run-good ((none-exactly (run_rows rec ks ws k limit ms ts)).0 e)).table

  -- so where no row holds the run can be made
  pub runnable-of-none : first_refusal (run_rows rec ks ws k limit ms ts) ≡ None
      → Runnable rec.used ks ws k (limit_of limit) ms ts
  runnable-of-none e = runnable (run-good ((none-exactly (run_rows rec ks ws k limit ms ts)).0 e))
