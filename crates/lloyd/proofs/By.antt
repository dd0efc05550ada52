-- A run by any rule from any given shades, refused by any rows: refused or made, and, where it is accepted, made.
use Prim.Native.Nat.{ℕ}
use mathlib.Core.Bool.{Bool}
use mathlib.Core.List.{List}
use mathlib.Core.Path.{◌≡◌, refl, sym, ap, ◌∙◌}
use Rattle.std.specs.Prelude.{Ok, None}
use Rattle.std.specs.Result.{result_err}
use Rattle.refusal.specs.{Row, first_refusal, RefusesBy}
use Rattle.refusal.proofs.By.{refuses_by}
use Rattle.colour.specs.{Within, most_coordinate}
use Rattle.method.specs.{Rule, GoodRule, Base, Colours, State, colours_of, begin_from, final_of}
use Rattle.method.proofs.Begins.{begin-from-fit}
use Rattle.method.proofs.Sizes.{fair-of-table}
use Rattle.rounds_many.specs.{SeriesMeets}
use Rattle.rounds.specs.{Runnable}
use Rattle.lloyd_tests.specs.{limit_of}
use Rattle.lloyd.specs.Outcomes.{RunOutcome, RunMeets, AcceptedBy, kept_run, made_run, run_by}
use Rattle.lloyd.specs.declared.Ran.{Ran}
use Rattle.lloyd.proofs.Made.{Making}

module _ (rows : List Row) (rule : Rule) (B : Base) (C : Colours) (k limit : ℕ) (ms ts : List ℕ) where
  -- what it makes
  abbrev made : RunOutcome
  made = made_run rule C k (limit_of limit) (begin_from B C k ms) ts

  -- it refuses by the rows: it is made, or its error, and no slice changes
  pub by-refuses : RefusesBy rows (run_by rows rule B C k limit ms ts) (λ o. result_err o.answer) made (kept_run ms ts)
  by-refuses = refuses_by _ _ _ _ refl (λ n. refl)

  -- the contract where it is made
  pub by-meets-made : (z : State) (totals : List ℕ) (rounds : ℕ) (settled : Bool) (distances total : ℕ) (r : Ran)
      → first_refusal rows ≡ None
      → SeriesMeets rule C k (limit_of limit) (begin_from B C k ms) z ts totals rounds settled distances
      → total ≡ final_of C z
      → r ≡ record {
        shades = z.coordinates;
        rounds = rounds;
        settled = settled;
        distances = distances;
        total = total;
      }
      → RunMeets (run_by rows rule B C k limit ms ts) (Ok r) z.members totals
  by-meets-made z totals rounds settled distances total r e m t is =
      rw (by-refuses.by_none e)
      (record {
        answer = ap Ok (is ∙ rw (t, m.state, m.rounds_is, m.settled_is, m.distances_is));
        members_are = ap (λ (y : State). y.members) m.state;
        totals_are = m.totals_is;
      })

-- the outcome of what is accepted is accepted
pub accepted-done : {o : RunOutcome} {r : Ran} {members totals : List ℕ} → AcceptedBy o r members totals
    → result_err o.answer ≡ None
accepted-done h = ap result_err (sym h.meets.answer)

-- an accepted run on a table is made, where its rule is good and its given shades are on the grid
pub making-by : {used : ℕ} {ks ws : List ℕ} (rows : List Row) (rule : Rule) (B : Base) {k : ℕ} (limit : ℕ)
    {ms ts : List ℕ} {r : Ran} {members totals : List ℕ}
    → AcceptedBy (run_by rows rule B (colours_of used ks ws) k limit ms ts) r members totals
    → Runnable used ks ws k (limit_of limit) ms ts → GoodRule rule → ((q : ℕ) → Within most_coordinate (B.at q))
    → Making rule (colours_of used ks ws) k (limit_of limit) (begin_from B (colours_of used ks ws) k ms) ts r members
    totals
making-by {used} {ks} {ws} rows rule B {k} limit {ms} {ts} h able good low =
    let is = (by-refuses rows rule B (colours_of used ks ws) k limit ms ts).accepted_is (accepted-done h) in
    let fair = fair-of-table able.table in
    record {
      meets = record {
        answer = h.meets.answer ∙ ap (λ (o : RunOutcome). o.answer) is;
        members_are = h.meets.members_are ∙ ap (λ (o : RunOutcome). o.members) is;
        totals_are = h.meets.totals_are ∙ ap (λ (o : RunOutcome). o.totals) is;
      };
      good = good;
      fair = fair;
      fit = begin-from-fit B (colours_of used ks ws) k ms low fair able.some able.few able.members_room;
      some = able.limit_some;
      room = able.totals_room;
    }
