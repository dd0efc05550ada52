-- What is shown of the test of a table, each theorem in full; its body names the proof.
-- The contract of `bad_table` says that its answer is `bad_table` of the record and both slices, that of `room_of` that
-- its answer is the shorter of two lengths, capped at 1,048,576; on every input.
use mathlib.Core.Path.{◌≡◌, sym, ◌∙◌}
use mathlib.Core.Bool.{Bool, false, ◌||◌}
use mathlib.Core.Logic.{◌↔◌}
use mathlib.Core.List.{List}
use Prim.Native.Nat.{ℕ, min, ◌*◌, ◌≤◌}
use Rattle.colour.specs.{most_level}
use Rattle.table_entries.specs.{entries, weight_of, most_entries}
use Rattle.table_test.specs.Tables.{bad_table, bad_counts, other_sums}
use Rattle.table_test.specs.Goods.{GoodTable}
use Rattle.table_test.specs.declared.Record.{Record}
use Rattle.table_test.proofs.Goods as goods

-- ---- the contracts leave one answer

-- Whatever meets the contract of `bad_table` on an input has one answer.
pub bad-table-only : (rec : Record) (ks ws : List ℕ) {r r' : Bool} → r ≡ bad_table rec ks ws → r' ≡ bad_table rec ks ws
    → r ≡ r'
bad-table-only rec ks ws a b = a ∙ sym b

-- Whatever meets the contract of `room_of` on two lengths has one answer.
pub room-only : (keys weights : ℕ) {r r' : ℕ} → r ≡ min (min keys weights) most_entries
    → r' ≡ min (min keys weights) most_entries → r ≡ r'
room-only keys weights a b = a ∙ sym b

-- ---- a good table

-- The test of BAD TABLE fails exactly for a good table.
pub bad-table-exactly : (rec : Record) (ks ws : List ℕ) → (bad_table rec ks ws ≡ false) ↔ GoodTable rec ks ws
bad-table-exactly = goods.bad-table-exactly

-- BAD TABLE in two parts: used entries above the room, entries that are not sound, or a pixel total that is not theirs
-- or is too large; or a channel sum that is not theirs.
pub bad-table-parts : (rec : Record) (ks ws : List ℕ)
    → bad_table rec ks ws ≡ (bad_counts rec ks ws || other_sums rec ks ws)
bad-table-parts = goods.bad-table-parts

-- Where the channel sums are true, BAD TABLE is judged by the entries, the used ones and the pixels alone.
pub bad-of-true-sums : (rec : Record) (ks ws : List ℕ) → other_sums rec ks ws ≡ false
    → bad_table rec ks ws ≡ bad_counts rec ks ws
bad-of-true-sums = goods.bad-of-true-sums

-- The sums of a good table are at most 255 for each pixel, so at most 4,278,190,080.
pub sums-at-most : (rec : Record) (ks ws : List ℕ) → GoodTable rec ks ws
    → (rec.red ≤ most_level * rec.pixels) × (rec.green ≤ most_level * rec.pixels)
    × (rec.blue ≤ most_level * rec.pixels)
sums-at-most rec ks ws = goods.sums-at-most

-- ---- a table is its weights

-- Two good tables that give every colour the same weight have the same entries and the same record.
pub determined-by-weights : (rec rec' : Record) (ks ws ks' ws' : List ℕ) → GoodTable rec ks ws → GoodTable rec' ks' ws'
    → ((c : ℕ) → weight_of c (entries rec.used ks ws) ≡ weight_of c (entries rec'.used ks' ws'))
    → (entries rec.used ks ws ≡ entries rec'.used ks' ws') × (rec ≡ rec')
determined-by-weights = goods.determined
