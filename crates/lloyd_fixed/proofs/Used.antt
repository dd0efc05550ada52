-- A run with fixed shades beside others: under another limit where it is settled, on other slices with the same used
-- entries, and by another record that is as true.
use Prim.Native.Nat.{ℕ, ◌-◌, ◌≤◌, ◌<◌}
use mathlib.Core.Bool.{Bool, true, false, ◌||◌}
use mathlib.Core.List.{List, [], ◌∷◌}
use mathlib.Core.Path.{◌≡◌, ap, ap₂}
use lib.Dec.{ltb}
use lib.ListN.{get_or, length}
use Rattle.std.specs.Prelude.{None}
use Rattle.refusal.specs.{
  row,
  first_refusal,
  BadTable,
  BadPalette,
  BadCount,
  FewColours,
  BadLimit,
  ShortRoom,
}
use Rattle.refusal.proofs.By.{none-exactly, by-alike}
use Rattle.colour.specs.{Bytes, colour_of}
use Rattle.table_test.specs.{Record, room_of, bad_table}
use Rattle.table_test.proofs.Goods.{bad-table-alike}
use Rattle.method.specs.{most_rounds, colours_of, listed}
use Rattle.method.proofs.Rules.{kind-goes, holding-goes}
use Rattle.method.proofs.Used.{unlike-alike}
use Rattle.lloyd_tests.specs.{limit_of, bad_limit, short_totals}
use Rattle.lloyd_tests.proofs.Promises.{bad-limit-exactly, short-totals-exactly}
use Rattle.lloyd.specs.{Ran, RunOutcome, kept_run, run_by}
use Rattle.lloyd.proofs.Limits.{settled-by}
use Rattle.lloyd.proofs.Used.{made-from-alike}
use Rattle.lloyd_stock.specs.{fixed_in, stock, colours_left, bad_fixed, bad_free}
use Rattle.lloyd_fixed.specs.Outcomes.{AcceptedFixed, fixed_rows, fixed_rule, fixed_run}
use Rattle.lloyd_fixed.proofs.Accepted.{by-fixed, fixed-tests, fixed-making}
use Rattle.lloyd_fixed.proofs.Wholes.{good-of-none, fixed-able}

module _ {rec : Record} {ks ws fixed : List ℕ} {k limit : ℕ} {ms ts : List ℕ} {r : Ran} {members totals : List ℕ}
    (h : AcceptedFixed rec ks ws fixed k limit ms ts r members totals) where
  -- under a limit that passes its own tests no row holds
  rows_pass : (other : ℕ) → other ≤ most_rounds → limit_of other ≤ length ts
      → first_refusal (fixed_rows rec ks ws fixed k other ms ts) ≡ None
  rows_pass other most room =
      let g = fixed-tests h in
      (none-exactly (fixed_rows rec ks ws fixed k other ms ts)).1 (
        g.table,
        (
          g.whole,
          (
            g.count,
            (
              g.colours,
              ((bad-limit-exactly other).1 most, (rw g.members ((short-totals-exactly other ts).1 room), tt)),
            ),
          ),
        ),
      )

  -- so a settled one is the same there
  pub settled-at-any-limit : Bytes fixed → r.settled ≡ true → (other : ℕ) → r.rounds ≤ limit_of other
      → other ≤ most_rounds → limit_of other ≤ length ts
      → fixed_run rec ks ws fixed k other ms ts ≡ fixed_run rec ks ws fixed k limit ms ts
  unfolding fixed_run
  settled-at-any-limit bytes settled other enough most room =
      settled-by (fixed_rows rec ks ws fixed k limit ms ts) (fixed_rows rec ks ws fixed k other ms ts)
      (fixed_rule fixed)
      (listed (stock fixed)) (colours_of rec.used ks ws) k limit other ms ts (by-fixed h) (fixed-making h bytes) settled
      enough (rows_pass other most room)

-- by two records that use as many entries and are both true or both not it is the same
pub run-by-truth : (rec rec' : Record) (ks ws fixed : List ℕ) (k limit : ℕ) (ms ts : List ℕ) → rec.used ≡ rec'.used
    → bad_table rec ks ws ≡ bad_table rec' ks ws
    → fixed_run rec ks ws fixed k limit ms ts ≡ fixed_run rec' ks ws fixed k limit ms ts
unfolding fixed_run
run-by-truth rec rec' ks ws fixed k limit ms ts used truth = ap₂ (λ (bad : Bool) (n : ℕ). judged bad n) truth used
  where
    -- the run on so many used entries, with a table that is bad or not
    judged : Bool → ℕ → RunOutcome
    judged bad n =
        run_by (row bad BadTable
        ∷ row (bad_fixed fixed) BadPalette
        ∷ row (bad_free fixed k) BadCount
        ∷ row (ltb (colours_left n ks fixed) (k - fixed_in fixed)) FewColours
        ∷ row (bad_limit limit) BadLimit
        ∷ row (ltb (length ms) n || short_totals limit ts) ShortRoom
        ∷ []) (fixed_rule fixed) (listed (stock fixed)) (colours_of n ks ws) k limit ms ts

-- on tables with the same record and the same used entries it answers and leaves the same
pub run-of-used : (rec : Record) (ks ws ks' ws' fixed : List ℕ) (k limit : ℕ) (ms ts : List ℕ)
    → rec.used ≤ room_of ks ws → rec.used ≤ room_of ks' ws'
    → ((i : ℕ) → i < rec.used → get_or ks i 0 ≡ get_or ks' i 0)
    → ((i : ℕ) → i < rec.used → get_or ws i 0 ≡ get_or ws' i 0)
    → fixed_run rec ks ws fixed k limit ms ts ≡ fixed_run rec ks' ws' fixed k limit ms ts
unfolding fixed_run
run-of-used rec ks ws ks' ws' fixed k limit ms ts room room' keys weights =
    by-alike (fixed_rows rec ks ws fixed k limit ms ts) (fixed_rows rec ks' ws' fixed k limit ms ts) _ _
    (kept_run ms ts)
    (rw (
      bad-table-alike rec ks ws ks' ws' room room' keys weights,
      unlike-alike rec.used (λ i. get_or ws i 0) (λ i. get_or ws' i 0) _ _ weights (λ i l. ap colour_of (keys i l))
          (stock fixed) (fixed_in fixed),
    ))
    (λ e. made-from-alike rec ks ws ks' ws' keys weights k (fixed_rule fixed)
    (holding-goes (fixed_in fixed) (kind-goes false)) (listed (stock fixed))
    (fixed-able rec ks ws fixed k limit ms ts (good-of-none rec ks ws fixed k limit ms ts e)).colours (limit_of limit)
    ms ts)
