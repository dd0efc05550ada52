-- When a run with fixed shades gives each refusal, that a refused one writes nothing, and what its contract says: each
-- theorem in full, under a sentence that says it. `fixed_rows` are its tests in their order; what those of the fixed
-- list, of the count and of the colours left say stands in the Promises of lloyd_stock.
use Prim.Native.Nat.{ℕ, ◌≤◌, ◌<◌}
use mathlib.Core.Bool.{true, false}
use mathlib.Core.List.{List, []}
use mathlib.Core.Logic.{◌↔◌}
use mathlib.Core.Path.{◌≡◌, refl, sym, ◌∙◌}
use lib.ListN.{get_or, length}
use Rattle.std.specs.Prelude.{Result, None, Some}
use Rattle.std.specs.Result.{result_err}
use Rattle.refusal.specs.{Refusal, Given, NoneHolds, BadPalette}
use Rattle.table_test.specs.{Record, room_of, bad_table}
use Rattle.colour.specs.{Bytes}
use Rattle.method.specs.{most_rounds}
use Rattle.lloyd_tests.specs.{usual_limit, limit_of}
use Rattle.lloyd.specs.{Ran, RunMeets, kept_run}
use Rattle.lloyd_fixed.specs.Outcomes.{AcceptedFixed, fixed_rows, fixed_run}
use Rattle.lloyd_fixed.proofs.Used as used
use Rattle.lloyd_fixed.proofs.Wholes as wholes

-- ---- refusals

-- A run with fixed shades gives each refusal exactly when its row is the first of 2, 10, 4, 5, 6, 7 that holds.
pub fixed-refused-exactly : (rec : Record) (ks ws fixed : List ℕ) (k limit : ℕ) (ms ts : List ℕ) (n : Refusal)
    → (result_err (fixed_run rec ks ws fixed k limit ms ts).answer ≡ Some n)
    ↔ Given (fixed_rows rec ks ws fixed k limit ms ts) n
fixed-refused-exactly rec ks ws fixed k limit ms ts =
    (wholes.fixed-refuses rec ks ws fixed k limit ms ts).refused_exactly

-- And none exactly when no row holds.
pub fixed-accepted-exactly : (rec : Record) (ks ws fixed : List ℕ) (k limit : ℕ) (ms ts : List ℕ)
    → (result_err (fixed_run rec ks ws fixed k limit ms ts).answer ≡ None)
    ↔ NoneHolds (fixed_rows rec ks ws fixed k limit ms ts)
fixed-accepted-exactly rec ks ws fixed k limit ms ts =
    (wholes.fixed-refuses rec ks ws fixed k limit ms ts).accepted_exactly

-- A refused one answers its error, and no slice changes.
pub fixed-refused : (rec : Record) (ks ws fixed : List ℕ) (k limit : ℕ) (ms ts : List ℕ) (n : Refusal)
    → result_err (fixed_run rec ks ws fixed k limit ms ts).answer ≡ Some n
    → fixed_run rec ks ws fixed k limit ms ts ≡ kept_run ms ts n
fixed-refused rec ks ws fixed k limit ms ts = (wholes.fixed-refuses rec ks ws fixed k limit ms ts).refused_is

-- On a table, an empty list is BAD PALETTE, whatever else is asked: with none fixed, document 01's run is used.
pub fixed-none-refused : (rec : Record) (ks ws : List ℕ) (k limit : ℕ) (ms ts : List ℕ) → bad_table rec ks ws ≡ false
    → result_err (fixed_run rec ks ws [] k limit ms ts).answer ≡ Some BadPalette
fixed-none-refused = wholes.none-refused

-- ---- the contract

-- Whatever meets the contract of `run_fixed` on an input has one answer and one content of each lent slice.
pub fixed-only : (rec : Record) (ks ws fixed : List ℕ) (k limit : ℕ) (ms ts : List ℕ) {r r' : Result Ran Refusal}
    {x x' t t' : List ℕ} → RunMeets (fixed_run rec ks ws fixed k limit ms ts) r x t
    → RunMeets (fixed_run rec ks ws fixed k limit ms ts) r' x' t' → (r ≡ r') × (x ≡ x') × (t ≡ t')
fixed-only rec ks ws fixed k limit ms ts a b =
    (a.answer ∙ sym b.answer, a.members_are ∙ sym b.members_are, a.totals_are ∙ sym b.totals_are)

-- With limit 0 it is the one with limit 100.
pub fixed-of-usual : (rec : Record) (ks ws fixed : List ℕ) (k : ℕ) (ms ts : List ℕ)
    → fixed_run rec ks ws fixed k 0 ms ts ≡ fixed_run rec ks ws fixed k usual_limit ms ts
unfolding fixed_run
fixed-of-usual rec ks ws fixed k ms ts = refl

-- A settled one is the same with any other limit that is not below the rounds it made and whose totals are lent.
pub fixed-settled-at-any-limit : {rec : Record} {ks ws fixed : List ℕ} {k limit : ℕ} {ms ts : List ℕ} {r : Ran}
    {members totals : List ℕ} → AcceptedFixed rec ks ws fixed k limit ms ts r members totals → Bytes fixed
    → r.settled ≡ true → (other : ℕ) → r.rounds ≤ limit_of other → other ≤ most_rounds → limit_of other ≤ length ts
    → fixed_run rec ks ws fixed k other ms ts ≡ fixed_run rec ks ws fixed k limit ms ts
fixed-settled-at-any-limit = used.settled-at-any-limit

-- It depends on the used entries alone.
pub fixed-of-used : (rec : Record) (ks ws ks' ws' fixed : List ℕ) (k limit : ℕ) (ms ts : List ℕ)
    → rec.used ≤ room_of ks ws → rec.used ≤ room_of ks' ws'
    → ((i : ℕ) → i < rec.used → get_or ks i 0 ≡ get_or ks' i 0)
    → ((i : ℕ) → i < rec.used → get_or ws i 0 ≡ get_or ws' i 0)
    → fixed_run rec ks ws fixed k limit ms ts ≡ fixed_run rec ks' ws' fixed k limit ms ts
fixed-of-used = used.run-of-used

-- And of the record on how many they are and on whether it is true.
pub fixed-by-truth : (rec rec' : Record) (ks ws fixed : List ℕ) (k limit : ℕ) (ms ts : List ℕ)
    → rec.used ≡ rec'.used → bad_table rec ks ws ≡ bad_table rec' ks ws
    → fixed_run rec ks ws fixed k limit ms ts ≡ fixed_run rec' ks ws fixed k limit ms ts
fixed-by-truth = used.run-by-truth
