-- What is shown of the colour table, each theorem in full; its body names the proof.
-- `add_strip rec ks ws s` is the outcome of a call (specs/Outcomes.antt): its contract says that the answer and both
-- slices of `add_strip` are those of this outcome, on every input.
use mathlib.Core.Path.{◌≡◌, sym, ap, ◌∙◌}
use mathlib.Core.Bool.{Bool, true, false, ◌||◌}
use mathlib.Core.Logic.{◌↔◌}
use mathlib.Core.List.{List, [], ◌++◌}
use Prim.Native.Nat.{ℕ, min, ◌+◌, ◌*◌, ◌/◌, ◌%◌, ◌<◌}
use lib.ListN.{length, get_or, take, drop}
use Rattle.number.specs.{sum}
use Rattle.std.specs.Prelude.{Some, None}
use Rattle.refusal.specs.{Refusal, Given, NoneHolds}
use Rattle.table_entries.specs.{
  entries,
  levels_of,
  weight_of,
  most_entries,
  strip_keys,
  count_of,
  stops,
  taken_of,
  with_taken,
  Prefix,
}
use Rattle.colour.specs.{bad_strip, Bytes, joined_strips, EachWhole, red_of, green_of, blue_of}
use Rattle.table_test.specs.{Record, room_of, record_of, bad_table, bad_counts, other_sums, GoodTable}
use Rattle.table.specs.Refusals.{full, add_rows}
use Rattle.table.specs.Outcomes.{as_it_came, hands_back, add_strip, table_after, AddMeets}
use Rattle.table.specs.Pieces.{added_by, add_strips, EachAdded}
use Rattle.table.specs.declared.Added.{Added}
use Rattle.colour.proofs.Strips as strips
use Rattle.table_test.proofs.Promises as tests
use Rattle.table.proofs.Meaning as meaning
use Rattle.table.proofs.Taken as taken
use Rattle.table.proofs.Joins as joins
use Rattle.table.proofs.Pieces as pieces

-- ---- the contract leaves one answer

-- Whatever meets the contract of `add_strip` on an input has one answer and one content of each slice.
pub add-strip-only : (rec : Record) (ks ws s : List ℕ) {r r' : Added} {k k' w w' : List ℕ}
    → AddMeets rec ks ws s r k w → AddMeets rec ks ws s r' k' w' → (r ≡ r') × (k ≡ k') × (w ≡ w')
add-strip-only rec ks ws s a b =
    (a.answer ∙ sym b.answer, a.keys ∙ sym b.keys, a.weights ∙ sym b.weights)

-- Whatever meets the contract of `bad_table` on an input has one answer.
pub bad-table-only : (rec : Record) (ks ws : List ℕ) {r r' : Bool} → r ≡ bad_table rec ks ws → r' ≡ bad_table rec ks ws
    → r ≡ r'
bad-table-only = tests.bad-table-only

-- Whatever meets the contract of `room_of` on two lengths has one answer.
pub room-only : (keys weights : ℕ) {r r' : ℕ} → r ≡ min (min keys weights) most_entries
    → r' ≡ min (min keys weights) most_entries → r ≡ r'
room-only = tests.room-only

-- ---- refusals

-- A refusal is given exactly when its row is the first of 1, 2, 3 whose test holds.
pub refused_exactly : (rec : Record) (ks ws s : List ℕ) (n : Refusal)
    → ((add_strip rec ks ws s).answer.refusal ≡ Some n) ↔ Given (add_rows rec ks ws s) n
refused_exactly rec ks ws s = (meaning.add-refuses rec ks ws s).refused_exactly

-- A strip is accepted exactly when none of the three tests holds.
pub accepted_exactly : (rec : Record) (ks ws s : List ℕ)
    → ((add_strip rec ks ws s).answer.refusal ≡ None) ↔ NoneHolds (add_rows rec ks ws s)
accepted_exactly rec ks ws s = (meaning.add-refuses rec ks ws s).accepted_exactly

-- The test of BAD STRIP holds exactly when the bytes are not a multiple of 3.
pub bad-strip-exactly : (s : List ℕ) → (bad_strip s ≡ true) ↔ (length s % 3 ≡ 0 → ⊥)
bad-strip-exactly = strips.bad-strip-exactly

-- The test of BAD TABLE fails exactly for a good table.
pub bad-table-exactly : (rec : Record) (ks ws : List ℕ) → (bad_table rec ks ws ≡ false) ↔ GoodTable rec ks ws
bad-table-exactly = tests.bad-table-exactly

-- BAD TABLE in two parts: used entries above the room, entries that are not sound, or a pixel total that is not theirs
-- or is too large; or a channel sum that is not theirs.
pub bad-table-parts : (rec : Record) (ks ws : List ℕ)
    → bad_table rec ks ws ≡ (bad_counts rec ks ws || other_sums rec ks ws)
bad-table-parts = tests.bad-table-parts

-- The test of FULL holds exactly when there is a next pixel and it does not go in: it meets a total of 16,777,216, or
-- is a new colour with no room.
pub full-exactly : (rec : Record) (ks ws s : List ℕ)
    → (full rec ks ws s ≡ true)
    ↔ ((taken_of (room_of ks ws) (entries rec.used ks ws) (strip_keys s) < length (strip_keys s))
    × (stops (room_of ks ws) (with_taken (room_of ks ws) (entries rec.used ks ws) (strip_keys s))
    (get_or (strip_keys s) (taken_of (room_of ks ws) (entries rec.used ks ws) (strip_keys s)) 0) ≡ true))
full-exactly = meaning.full-exactly

-- BAD STRIP and BAD TABLE hand the record back as it came in and write nothing.
pub refused-as-it-came : (rec : Record) (ks ws s : List ℕ) (n : Refusal) → hands_back n ≡ true
    → (add_strip rec ks ws s).answer.refusal ≡ Some n → add_strip rec ks ws s ≡ as_it_came (Some n) rec ks ws
refused-as-it-came = meaning.refused-as-it-came

-- An empty strip on a good table is done with 0 taken, even at a full pixel total or with no room.
pub empty-strip-done : (rec : Record) (ks ws : List ℕ) → bad_table rec ks ws ≡ false
    → add_strip rec ks ws [] ≡ as_it_came None rec ks ws
empty-strip-done = joins.empty-strip

-- ---- what an accepted add does

-- The weight of every colour is its former weight plus the number of its pixels in the strip.
pub accepted-weights : (rec : Record) (ks ws s : List ℕ) → (add_strip rec ks ws s).answer.refusal ≡ None → (c : ℕ)
    → weight_of c (table_after (add_strip rec ks ws s)) ≡ weight_of c (entries rec.used ks ws) + count_of c
    (strip_keys s)
accepted-weights = meaning.accepted-weights

-- The pixel total goes up by the pixels of the strip.
pub accepted-pixels : (rec : Record) (ks ws s : List ℕ) → (add_strip rec ks ws s).answer.refusal ≡ None
    → (add_strip rec ks ws s).answer.rec.pixels ≡ rec.pixels + length s / 3
accepted-pixels = meaning.accepted-pixels

-- A good table is good after any call, accepted, FULL or refused: keys rise strictly and are keys, weights are at least
-- 1, the pixels are the sum of the weights, and the channel sums those of the levels, weights counted.
pub stays-good : (rec : Record) (ks ws s : List ℕ) → Bytes s → GoodTable rec ks ws
    → GoodTable (add_strip rec ks ws s).answer.rec (add_strip rec ks ws s).keys (add_strip rec ks ws s).weights
stays-good = meaning.stays-good

-- Places past the used entries keep their values, on every input.
pub past-kept : (rec : Record) (ks ws s : List ℕ)
    → (drop (add_strip rec ks ws s).answer.rec.used (add_strip rec ks ws s).keys
    ≡ drop (add_strip rec ks ws s).answer.rec.used ks)
    × (drop (add_strip rec ks ws s).answer.rec.used (add_strip rec ks ws s).weights
    ≡ drop (add_strip rec ks ws s).answer.rec.used ws)
past-kept = meaning.past-kept

-- Where both strips are accepted, adding one after the other is adding them joined.
pub joined-strips : (rec : Record) (ks ws s t : List ℕ) → Bytes s → (add_strip rec ks ws s).answer.refusal ≡ None
    → (let o = add_strip rec ks ws s in
    (add_strip o.answer.rec o.keys o.weights t).answer.refusal ≡ None
    → add_strip rec ks ws (s ++ t) ≡ record {
      answer = record {
        refusal = None;
        taken = o.answer.taken + (add_strip o.answer.rec o.keys o.weights t).answer.taken;
        rec = (add_strip o.answer.rec o.keys o.weights t).answer.rec;
      };
      keys = (add_strip o.answer.rec o.keys o.weights t).keys;
      weights = (add_strip o.answer.rec o.keys o.weights t).weights;
    })
joined-strips = joins.joined-strips

-- Where each of a list of strips is accepted, one after the other, the strips joined are accepted too, and leave the
-- same record and slices; the pixels taken are those of all calls.
pub in-strips : (ss : List (List ℕ)) (rec : Record) (ks ws : List ℕ) → GoodTable rec ks ws → Bytes (joined_strips ss)
    → EachAdded rec ks ws ss
    → ((add_strip rec ks ws (joined_strips ss)).answer.refusal ≡ None)
    × (add_strips rec ks ws ss ≡ added_by (add_strip rec ks ws (joined_strips ss)))
in-strips = pieces.in-strips

-- Where the strips joined are accepted, each is.
pub each-accepted : (ss : List (List ℕ)) (rec : Record) (ks ws : List ℕ) → EachWhole ss → Bytes (joined_strips ss)
    → (add_strip rec ks ws (joined_strips ss)).answer.refusal ≡ None → EachAdded rec ks ws ss
each-accepted = pieces.each-accepted

-- ---- FULL

-- The pixels taken are the longest prefix of the strip that goes in, pixel by pixel.
pub taken-is-longest : (rec : Record) (ks ws s : List ℕ) → bad_strip s ≡ false → bad_table rec ks ws ≡ false
    → Prefix (room_of ks ws) (entries rec.used ks ws) (strip_keys s) (add_strip rec ks ws s).answer.taken
taken-is-longest = meaning.taken-is-longest

-- No other number of pixels is.
pub longest-only : (rec : Record) (ks ws s : List ℕ) → bad_strip s ≡ false → bad_table rec ks ws ≡ false → (n : ℕ)
    → Prefix (room_of ks ws) (entries rec.used ks ws) (strip_keys s) n → n ≡ (add_strip rec ks ws s).answer.taken
longest-only = meaning.longest-only

-- Record and slices are those of the pixels taken.
pub after-taken : (rec : Record) (ks ws s : List ℕ) → bad_strip s ≡ false → bad_table rec ks ws ≡ false
    → (table_after (add_strip rec ks ws s) ≡ with_taken (room_of ks ws) (entries rec.used ks ws) (strip_keys s))
    × ((add_strip rec ks ws s).answer.rec ≡ record_of (table_after (add_strip rec ks ws s)))
after-taken = meaning.taken-after

-- Accepted or FULL, an add is that of the first `taken` pixels: each colour's weight is its former weight plus the
-- number of its pixels among them, the record's pixels are those before plus their number, and with 0 taken the record
-- and both slices are as they came, beside the refusal that is answered.
pub taken-counts : (rec : Record) (ks ws s : List ℕ) → bad_strip s ≡ false → bad_table rec ks ws ≡ false
    → (let o = add_strip rec ks ws s in
    ((c : ℕ) → weight_of c (table_after o)
    ≡ weight_of c (entries rec.used ks ws) + count_of c (take o.answer.taken (strip_keys s)))
    × (o.answer.rec.pixels ≡ rec.pixels + o.answer.taken)
    × (o.answer.taken ≡ 0 → o ≡ as_it_came o.answer.refusal rec ks ws))
taken-counts rec ks ws s a b =
    (taken.taken-weights rec ks ws s a b, taken.taken-total rec ks ws s a b, taken.taken_none rec ks ws s a b)

-- Accepted or FULL, each channel sum of the record is that before plus the bytes of that channel among the pixels
-- taken: bytes 0, 3, 6 and so on for red, 1, 4, 7 for green, 2, 5, 8 for blue.
pub taken-sums : (rec : Record) (ks ws s : List ℕ) → bad_strip s ≡ false → bad_table rec ks ws ≡ false → Bytes s
    → (let o = add_strip rec ks ws s in
    (o.answer.rec.red ≡ rec.red + sum o.answer.taken (λ i. get_or s (3 * i + 0) 0))
    × (o.answer.rec.green ≡ rec.green + sum o.answer.taken (λ i. get_or s (3 * i + 1) 0))
    × (o.answer.rec.blue ≡ rec.blue + sum o.answer.taken (λ i. get_or s (3 * i + 2) 0)))
taken-sums = taken.taken-sums

-- And they are those of the entries then: of each channel, the levels of the used entries, weights counted.
pub sums-after : (rec : Record) (ks ws s : List ℕ) → bad_strip s ≡ false → bad_table rec ks ws ≡ false
    → (let o = add_strip rec ks ws s in
    (o.answer.rec.red ≡ levels_of red_of (table_after o)) × (o.answer.rec.green ≡ levels_of green_of (table_after o))
    × (o.answer.rec.blue ≡ levels_of blue_of (table_after o)))
sums-after rec ks ws s a b =
    let e = (meaning.taken-after rec ks ws s a b).1 in (
      ap (λ (r : Record). r.red) e,
      ap (λ (r : Record). r.green) e,
      ap (λ (r : Record). r.blue) e,
    )

-- BAD STRIP hands the record back, so one that was true is true, and one that was not is not.
pub bad-strip-keeps-truth : (rec : Record) (ks ws s : List ℕ) → bad_strip s ≡ true
    → (let o = add_strip rec ks ws s in bad_table o.answer.rec o.keys o.weights ≡ bad_table rec ks ws)
bad-strip-keeps-truth = meaning.bad-strip-keeps-truth

-- ---- a table is its weights

-- Two good tables that give every colour the same weight have the same entries and the same record.
pub determined-by-weights : (rec rec' : Record) (ks ws ks' ws' : List ℕ) → GoodTable rec ks ws → GoodTable rec' ks' ws'
    → ((c : ℕ) → weight_of c (entries rec.used ks ws) ≡ weight_of c (entries rec'.used ks' ws'))
    → (entries rec.used ks ws ≡ entries rec'.used ks' ws') × (rec ≡ rec')
determined-by-weights = tests.determined-by-weights
