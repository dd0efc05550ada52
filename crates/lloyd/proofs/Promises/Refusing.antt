-- When a run gives each refusal, and that a refused one writes nothing: each theorem in full, under a sentence that
-- says it. `run_rows` are the tests of a run in their order; what each says stands in the Promises of lloyd_tests.
use Prim.Native.Nat.{ℕ}
use mathlib.Core.List.{List}
use mathlib.Core.Logic.{◌↔◌}
use mathlib.Core.Path.{◌≡◌}
use Rattle.std.specs.Prelude.{None, Some}
use Rattle.std.specs.Result.{result_err}
use Rattle.refusal.specs.{Refusal, Given, NoneHolds}
use Rattle.table_test.specs.{Record}
use Rattle.lloyd_refusal.specs.{run_rows}
use Rattle.lloyd.specs.Outcomes.{run_of, kept_run}
use Rattle.lloyd.proofs.Wholes as wholes

-- A run gives each refusal exactly when its row is the first of 2, 4, 5, 6, 7 that holds.
pub run-refused-exactly : (rec : Record) (ks ws : List ℕ) (k limit : ℕ) (ms ts : List ℕ) (n : Refusal)
    → (result_err (run_of rec ks ws k limit ms ts).answer ≡ Some n) ↔ Given (run_rows rec ks ws k limit ms ts) n
run-refused-exactly rec ks ws k limit ms ts = (wholes.run-refuses rec ks ws k limit ms ts).refused_exactly

-- And none exactly when no row holds.
pub run-accepted-exactly : (rec : Record) (ks ws : List ℕ) (k limit : ℕ) (ms ts : List ℕ)
    → (result_err (run_of rec ks ws k limit ms ts).answer ≡ None) ↔ NoneHolds (run_rows rec ks ws k limit ms ts)
run-accepted-exactly rec ks ws k limit ms ts = (wholes.run-refuses rec ks ws k limit ms ts).accepted_exactly

-- A refused run answers its error, and no slice changes.
pub run-refused : (rec : Record) (ks ws : List ℕ) (k limit : ℕ) (ms ts : List ℕ) (n : Refusal)
    → result_err (run_of rec ks ws k limit ms ts).answer ≡ Some n
    → run_of rec ks ws k limit ms ts ≡ kept_run ms ts n
run-refused rec ks ws k limit ms ts = (wholes.run-refuses rec ks ws k limit ms ts).refused_is
