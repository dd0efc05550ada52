-- The palette of a run.
use Rattle.std.specs.Prelude.{ℕ, List}
use Rattle.table_test.specs.{Record}
use Rattle.method.specs.{front_of}
use Rattle.lloyd.specs.{Ran, left}
use Rattle.palette.specs.{PaletteOutcome}
use Rattle.palette_groups.specs.{palette_from_groups, palette_from_groups_fixed}

-- the outcome of `palette_from_groups` on the table of a run, the first 3k coordinates that it answers, the members
-- that it leaves, and the bytes d
abbrev pub run_palette : Record → List ℕ → List ℕ → ℕ → Ran → List ℕ → List ℕ → PaletteOutcome
run_palette rec ks ws k r members d = palette_from_groups rec ks ws (front_of k (left r members)) d

-- the same of a run with fixed shades: the outcome of `palette_from_groups_fixed`, of whose shades the first f are
-- fixed
abbrev pub run_palette_fixed : ℕ → Record → List ℕ → List ℕ → ℕ → Ran → List ℕ → List ℕ → PaletteOutcome
run_palette_fixed f rec ks ws k r members d =
    palette_from_groups_fixed f rec ks ws (front_of k (left r members)) d
