-- A table by its record: the room of two slices, the record of entries, and the test of BAD TABLE.
use Rattle.std.specs.Prelude.{ℕ, min, Bool, not, ◌&&◌, ◌||◌, List, length, ltb, eqb}
use Rattle.colour.specs.{most_pixels, red_of, green_of, blue_of}
use Rattle.table_entries.specs.{Entry, entries, pixels_of, levels_of, sound, most_entries}
use Rattle.table_sums.specs.{three_same}
use Rattle.table_test.specs.declared.Record.{Record}

-- the room: the shorter of the two lent slices, capped at 1,048,576
abbrev pub room_of : List ℕ → List ℕ → ℕ
room_of ks ws = min (min (length ks) (length ws)) most_entries

-- the record of a table: how many entries are used, the pixel total, which is the sum of the weights, and the sums of
-- the three channels in whole levels, weights counted
abbrev pub record_of : List Entry → Record
record_of es = record {
  used = length es;
  pixels = pixels_of es;
  red = levels_of red_of es;
  green = levels_of green_of es;
  blue = levels_of blue_of es;
}

-- the record of an empty table
abbrev pub empty_record : Record
empty_record = record { used = 0; pixels = 0; red = 0; green = 0; blue = 0 }

-- two records have the same channel sums
abbrev pub same_sums : Record → Record → Bool
same_sums a b = three_same a.red a.green a.blue b.red b.green b.blue

-- two records say the same
abbrev pub same_record : Record → Record → Bool
same_record a b = eqb a.used b.used && (eqb a.pixels b.pixels && same_sums a b)

-- the used entries are no table of this record: a key above 16,777,215 or not above the one before, a weight of 0,
-- a record that is not theirs, or a pixel total above 16,777,216
abbrev pub bad_entries : Record → List Entry → Bool
bad_entries rec es = not (sound 0 es) || (not (same_record (record_of es) rec) || ltb most_pixels rec.pixels)

-- BAD TABLE: used entries above the room, or used entries that are no table of this record
abbrev pub bad_table : Record → List ℕ → List ℕ → Bool
bad_table rec ks ws = ltb (room_of ks ws) rec.used || bad_entries rec (entries rec.used ks ws)

-- the same test with no look at the channel sums: used entries above the room, a key above 16,777,215 or not above the
-- one before, a weight of 0, a pixel total that is not the sum of the weights or is above 16,777,216
abbrev pub bad_counts : Record → List ℕ → List ℕ → Bool
bad_counts rec ks ws =
    let es = entries rec.used ks ws in
    ltb (room_of ks ws) rec.used || (not (sound 0 es)
    || (not (eqb (length es) rec.used && eqb (pixels_of es) rec.pixels) || ltb most_pixels rec.pixels))

-- a channel sum of the record is not that of the used entries
abbrev pub other_sums : Record → List ℕ → List ℕ → Bool
other_sums rec ks ws = not (same_sums (record_of (entries rec.used ks ws)) rec)
