-- When a run is refused: the order of its rows, and the rows that every run has at the end.
use Rattle.std.specs.Prelude.{ℕ, ◌||◌, List, [], ◌∷◌}
use Rattle.refusal.specs.{Row, row, BadTable, BadCount, FewColours, BadLimit, ShortRoom}
use Rattle.table_test.specs.{Record, bad_table}
use Rattle.lloyd_tests.specs.{bad_count, few_colours, bad_limit, short_members, short_totals}

-- the end of every run's order: 6, 7
abbrev pub room_rows : Record → ℕ → List ℕ → List ℕ → List Row
room_rows rec limit ms ts =
    row (bad_limit limit) BadLimit ∷ row (short_members rec ms || short_totals limit ts) ShortRoom ∷ []

-- the order of a run: 2, 4, 5, 6, 7
abbrev pub run_rows : Record → List ℕ → List ℕ → ℕ → ℕ → List ℕ → List ℕ → List Row
run_rows rec ks ws k limit ms ts =
    row (bad_table rec ks ws) BadTable
    ∷ row (bad_count k) BadCount
    ∷ row (few_colours rec k) FewColours
    ∷ row (bad_limit limit) BadLimit
    ∷ row (short_members rec ms || short_totals limit ts) ShortRoom
    ∷ []
