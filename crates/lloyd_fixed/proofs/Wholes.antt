-- The outcome of a run with fixed shades: refused or made, and what its tests give.
use Prim.Native.Nat.{ℕ, ◌≤◌, ◌<◌}
use mathlib.Core.Bool.{Bool, false}
use mathlib.Core.List.{List, []}
use mathlib.Core.Path.{◌≡◌}
use native.Mathlib.Omega.{arith}
use lib.ListN.{length}
use borrow.Author.Tests.{ltb-false}
use Rattle.number.proofs.Cases.{neither}
use Rattle.std.specs.Prelude.{Ok, None, Some}
use Rattle.std.specs.Result.{result_err}
use Rattle.refusal.specs.{first_refusal, NoneHolds, RefusesBy, BadPalette}
use Rattle.refusal.proofs.By.{none-exactly}
use Rattle.table_test.specs.{Record, bad_table, GoodTable}
use Rattle.table_test.proofs.Promises.{bad-table-exactly}
use Rattle.method.specs.{State, colours_of, listed, begin_from, final_of, most_rounds}
use Rattle.rounds_many.specs.{SeriesMeets}
use Rattle.rounds.specs.{Runnable}
use Rattle.lloyd_tests.specs.{limit_of, bad_limit, short_members, short_totals}
use Rattle.lloyd_tests.proofs.Checks.{limit_some, limit_most}
use Rattle.lloyd_tests.proofs.Tables.{tabled-of-test, pixels-of-test}
use Rattle.lloyd.specs.{Ran, RunMeets, made_run, kept_run}
use Rattle.lloyd.proofs.By.{by-refuses, by-meets-made}
use Rattle.lloyd_stock.specs.{most_fixed, fixed_in, stock, bad_fixed, bad_free, few_left}
use Rattle.lloyd_stock.proofs.Promises.{bad-fixed-exactly, bad-free-exactly, enough-left-exactly, left-at-most}
use Rattle.lloyd_fixed.specs.Outcomes.{fixed_rows, fixed_rule, fixed_start, fixed_run}

-- on a table an empty list is BAD PALETTE
pub none-refused : (rec : Record) (ks ws : List ℕ) (k limit : ℕ) (ms ts : List ℕ) → bad_table rec ks ws ≡ false
    → result_err (fixed_run rec ks ws [] k limit ms ts).answer ≡ Some BadPalette
unfolding fixed_run
none-refused rec ks ws k limit ms ts table = rw table

module _ (rec : Record) (ks ws fixed : List ℕ) (k limit : ℕ) (ms ts : List ℕ) where
  -- it refuses by its rows: it is made, or its error, and no slice changes
  pub fixed-refuses : RefusesBy (fixed_rows rec ks ws fixed k limit ms ts) (fixed_run rec ks ws fixed k limit ms ts)
      (λ o. result_err o.answer)
      (made_run (fixed_rule fixed) (colours_of rec.used ks ws) k (limit_of limit) (fixed_start rec ks ws fixed k ms) ts)
      (kept_run ms ts)
  unfolding fixed_run
  fixed-refuses =
      by-refuses (fixed_rows rec ks ws fixed k limit ms ts) (fixed_rule fixed) (listed (stock fixed))
      (colours_of rec.used ks ws) k limit ms ts

  -- the contract where it is made, from shades that are the fixed ones
  pub fixed-meets-made : (base : List ℕ) (asked : ℕ) → base ≡ stock fixed → asked ≡ limit_of limit
      → (z : State) (totals : List ℕ) (rounds : ℕ) (settled : Bool) (distances total : ℕ) (r : Ran)
      → first_refusal (fixed_rows rec ks ws fixed k limit ms ts) ≡ None
      → SeriesMeets (fixed_rule fixed) (colours_of rec.used ks ws) k asked
      (begin_from (listed base) (colours_of rec.used ks ws) k ms) z ts totals rounds settled distances
      → total ≡ final_of (colours_of rec.used ks ws) z
      → r ≡ record {
        shades = z.coordinates;
        rounds = rounds;
        settled = settled;
        distances = distances;
        total = total;
      }
      → RunMeets (fixed_run rec ks ws fixed k limit ms ts) (Ok r) z.members totals
  unfolding fixed_run
  fixed-meets-made base asked given limited z totals rounds settled distances total r none series =
      by-meets-made (fixed_rows rec ks ws fixed k limit ms ts) (fixed_rule fixed) (listed (stock fixed))
      (colours_of rec.used ks ws) k limit ms ts z totals rounds settled distances total r none
      (rw (given, limited) at series)

  -- its tests fail
  pub record FixedGood : Type 0 where
    pub table : bad_table rec ks ws ≡ false
    pub whole : bad_fixed fixed ≡ false
    pub count : bad_free fixed k ≡ false
    pub colours : few_left rec ks fixed k ≡ false
    pub limited : bad_limit limit ≡ false
    pub members : short_members rec ms ≡ false
    pub totals : short_totals limit ts ≡ false

  -- where no row holds they do
  pub fixed-good : NoneHolds (fixed_rows rec ks ws fixed k limit ms ts) → FixedGood
  fixed-good h =
      let room = neither (short_members rec ms) (short_totals limit ts) h.1.1.1.1.1.0 in
      record {
        table = h.0;
        whole = h.1.0;
        count = h.1.1.0;
        colours = h.1.1.1.0;
        limited = h.1.1.1.1.0;
        members = room.0;
        totals = room.1;
      }

  module _ (g : FixedGood) where
    -- the record is the table's
    pub table_is : GoodTable rec ks ws
    table_is = (bad-table-exactly rec ks ws).0 g.table

    -- a shade is free, and there are at most 64
    pub some-free : (fixed_in fixed < k) × (k ≤ 64)
    some-free = (bad-free-exactly fixed k).0 g.count

    -- the fixed list has 3 to 189 bytes
    pub fixed-most : (3 ≤ length fixed) × (length fixed ≤ most_fixed)
    fixed-most =
        let w = (bad-fixed-exactly fixed).0 g.whole in
        (omega (arith, w.0, w.2), omega (arith, w.1, w.2))

    -- the table has a colour
    some-used : 0 < rec.used
    some-used =
        omega (arith, some-free.0, (enough-left-exactly rec ks fixed k).0 g.colours, left-at-most rec.used ks fixed)

    -- and the run can be made
    pub fixed-able : Runnable rec.used ks ws k (limit_of limit) ms ts
    fixed-able = record {
      table = tabled-of-test rec ks ws g.table;
      pixels = pixels-of-test rec ks ws g.table some-used;
      some = omega (arith, some-free.0);
      few = some-free.1;
      colours = some-used;
      limit_some = limit_some limit;
      limit_most = limit_most limit most_rounds (omega arith) (ltb-false most_rounds limit g.limited);
      members_room = ltb-false (length ms) rec.used g.members;
      totals_room = ltb-false (length ts) (limit_of limit) g.totals;
    }

  -- so where no row holds they fail
  pub good-of-none : first_refusal (fixed_rows rec ks ws fixed k limit ms ts) ≡ None → FixedGood
  good-of-none e = fixed-good ((none-exactly (fixed_rows rec ks ws fixed k limit ms ts)).0 e)
