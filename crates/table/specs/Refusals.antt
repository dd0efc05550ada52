-- When adding a strip is refused: one test a row of document 01's table, and the order of the rows.
use Rattle.std.specs.Prelude.{ℕ, Bool, List, [], ◌∷◌, length, ltb, Option}
use Rattle.refusal.specs.{Refusal, Row, row, first_refusal, BadStrip, BadTable, Full}
use Rattle.colour.specs.{bad_strip}
use Rattle.table_entries.specs.{entries, strip_keys, taken_of}
use Rattle.table_test.specs.{Record, room_of, bad_table}

-- FULL: a pixel is left that does not go in
abbrev pub full : Record → List ℕ → List ℕ → List ℕ → Bool
full rec ks ws s = ltb (taken_of (room_of ks ws) (entries rec.used ks ws) (strip_keys s)) (length (strip_keys s))

-- the order in which adding a strip refuses: 1, 2, 3
abbrev pub add_rows : Record → List ℕ → List ℕ → List ℕ → List Row
add_rows rec ks ws s =
    row (bad_strip s) BadStrip ∷ row (bad_table rec ks ws) BadTable ∷ row (full rec ks ws s) Full ∷ []

-- the refusal of the first that holds, none where none does
abbrev pub add_refusal : Record → List ℕ → List ℕ → List ℕ → Option Refusal
add_refusal rec ks ws s = first_refusal (add_rows rec ks ws s)
