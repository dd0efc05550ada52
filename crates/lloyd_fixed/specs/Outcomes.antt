-- When a run with fixed shades is refused, and what it leaves on every input.
use Rattle.std.specs.Prelude.{ℕ, List, ◌∷◌, Ok}
use Rattle.refusal.specs.{Row, row, BadTable, BadPalette, BadCount, FewColours}
use Rattle.table_test.specs.{Record, bad_table}
use Rattle.method.specs.{Rule, State, colours_of, to_mean, holding, listed, begin_from}
use Rattle.lloyd_refusal.specs.{room_rows}
use Rattle.lloyd.specs.{Ran, RunOutcome, RunMeets, run_by}
use Rattle.lloyd_stock.specs.{fixed_in, stock, bad_fixed, bad_free, few_left}

-- the order of a run with fixed shades: 2, 10, 4, 5, 6, 7
abbrev pub fixed_rows : Record → List ℕ → List ℕ → List ℕ → ℕ → ℕ → List ℕ → List ℕ → List Row
fixed_rows rec ks ws fixed k limit ms ts =
    row (bad_table rec ks ws) BadTable
    ∷ row (bad_fixed fixed) BadPalette
    ∷ row (bad_free fixed k) BadCount
    ∷ row (few_left rec ks fixed k) FewColours
    ∷ room_rows rec limit ms ts

-- fixed shades never move, and the others go to the mean
abbrev pub fixed_rule : List ℕ → Rule
fixed_rule fixed = holding (fixed_in fixed) to_mean

-- the run begins with the fixed shades, which have the lowest numbers, and maximin goes on from them; every colour is
-- in shade 0
abbrev pub fixed_start : Record → List ℕ → List ℕ → List ℕ → ℕ → List ℕ → State
fixed_start rec ks ws fixed k ms = begin_from (listed (stock fixed)) (colours_of rec.used ks ws) k ms

-- the whole outcome of the run
unfoldable pub fixed_run : Record → List ℕ → List ℕ → List ℕ → ℕ → ℕ → List ℕ → List ℕ → RunOutcome
fixed_run rec ks ws fixed k limit ms ts =
    run_by (fixed_rows rec ks ws fixed k limit ms ts) (fixed_rule fixed) (listed (stock fixed))
    (colours_of rec.used ks ws) k limit ms ts

-- this answer and these slices are those of one that is accepted
pub record AcceptedFixed (rec : Record) (ks ws fixed : List ℕ) (k limit : ℕ) (ms ts : List ℕ) (r : Ran)
    (members totals : List ℕ) : Type 0 where
  pub meets : RunMeets (fixed_run rec ks ws fixed k limit ms ts) (Ok r) members totals
