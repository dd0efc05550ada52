-- Each test of the refusals at its boundary: of the values tried, those at which it holds.
use Rattle.std.specs.Prelude.{ℕ, ◌+◌, ◌-◌, ◌*◌, Bool, List, [], ◌∷◌, ◌++◌, map, replicate}
use Rattle.refusal.specs.{first_of}
use Rattle.colour.specs.{bad_strip, most_pixels, most_sum}
use Rattle.table_entries.specs.{entry, stops}
use Rattle.table_test.specs.{Record, record_of, bad_table, room_of}
use Rattle.shades.specs.{bad_coordinates, bad_centre}
use Rattle.lloyd_tests.specs.{bad_count, few_colours, bad_limit, short_members, short_totals, bad_member}
use Rattle.method.specs.{state_of}
use Rattle.palette.specs.{bad_palette, short_palette}
use Rattle.palette_groups.specs.{short_rooms}
use Rattle.palette_twins.specs.{twin_shade, twins_of, told_pair}
use Rattle.mapping.specs.{short_index}
use Rattle.p6_header.specs.{HeaderReading, header_of, header_number, header_values}
use Rattle.p6.specs.{bad_side, bad_size, bad_depth, bad_raster}
use Rattle.listing_test.specs.{small_rows}
use Rattle.listing.specs.{bad_line, long_input, count_in}
use Rattle.sheets.specs.{Example}
use Rattle.scope.specs.Lines.{says, lists, those}

-- so many zeros
abbrev pub zeros : ℕ → List ℕ
zeros n = replicate n 0

-- a table of two entries, the first of key 1 and weight 1: bad_table by its second key and weight and its pixel total,
-- with the channel sums of these entries
abbrev pub bad_pair : ℕ → ℕ → ℕ → Bool
bad_pair key weight pixels =
    let sums = record_of (entry 1 1 ∷ entry key weight ∷ []) in
    bad_table (record { used = 2; pixels = pixels; red = sums.red; green = sums.green; blue = sums.blue })
    (1 ∷ key ∷ []) (1 ∷ weight ∷ [])

-- three pixels of (1,2,3) and one of (0,0,1), whose sums are 3, 6 and 10: bad_table by the three sums of the record
abbrev pub bad_sums : ℕ → ℕ → ℕ → Bool
bad_sums red green blue =
    bad_table (record { used = 2; pixels = 4; red = red; green = green; blue = blue }) (1 ∷ 66051 ∷ []) (1 ∷ 3 ∷ [])

-- a full table of white: bad_table by the red sum of the record
abbrev pub bad_white : ℕ → Bool
bad_white red =
    bad_table (record { used = 1; pixels = most_pixels; red = red; green = most_sum; blue = most_sum }) (16777215 ∷ [])
    (most_pixels ∷ [])

-- the record of so many used entries, and as many pixels, all of key 1
abbrev pub used_only : ℕ → Record
used_only n = record { used = n; pixels = n; red = 0; green = 0; blue = n }

-- a header "P6", blank, the text of a width, and " 1 255 "
abbrev pub headed : List ℕ → List ℕ
headed width = 80 ∷ 54 ∷ 32 ∷ (width ++ (32 ∷ 49 ∷ 32 ∷ 50 ∷ 53 ∷ 53 ∷ 32 ∷ []))

-- what a header says: its number, and its values
abbrev pub told : HeaderReading → List ℕ
told header = header_number header ∷ header_values header

-- a palette of greys with these levels
abbrev pub greys : List ℕ → List ℕ
greys [] = []
greys (n ∷ ns) = n ∷ n ∷ n ∷ greys ns

-- the numbers of its twins
abbrev pub pair_in : List ℕ → List ℕ
pair_in levels =
    (told_pair (twins_of (greys levels))).lower ∷ (told_pair (twins_of (greys levels))).higher ∷ []

-- row by row of document 01's table, and the listing's tests; no strip of 16,777,216 pixels is computed here, so that
-- 11 MANY PIXELS stands by its limit alone, among the constants
abbrev pub bounds : List Example
bounds =
    -- 1 BAD STRIP, by the bytes
    lists (those (λ n. bad_strip (zeros n)) (0 ∷ 1 ∷ 2 ∷ 3 ∷ 4 ∷ 6 ∷ [])) (1 ∷ 2 ∷ 4 ∷ [])
    -- the room: the shorter slice. 2 BAD TABLE: by the used entries in a room of 1; by a second key, a second weight
    -- and a pixel total; by each channel sum, and by two of them that together come to the same; of a full table; of
    -- an empty one
    ∷ lists (room_of (zeros 2) (zeros 3) ∷ room_of (zeros 3) (zeros 2) ∷ []) (2 ∷ 2 ∷ [])
    ∷ lists (those (λ n. bad_table (used_only n) (1 ∷ []) (1 ∷ 1 ∷ [])) (0 ∷ 1 ∷ 2 ∷ [])) (2 ∷ [])
    ∷ lists (those (λ n. bad_table (used_only n) (1 ∷ 2 ∷ []) (1 ∷ [])) (0 ∷ 1 ∷ 2 ∷ [])) (2 ∷ [])
    ∷ lists (those (λ key. bad_pair key 1 2) (0 ∷ 1 ∷ 2 ∷ 16777215 ∷ 16777216 ∷ [])) (0 ∷ 1 ∷ 16777216 ∷ [])
    ∷ lists (those (λ weight. bad_pair 2 weight (1 + weight)) (0 ∷ 1 ∷ 16777215 ∷ 16777216 ∷ [])) (0 ∷ 16777216 ∷ [])
    ∷ lists (those (λ pixels. bad_pair 2 1 pixels) (1 ∷ 2 ∷ 3 ∷ [])) (1 ∷ 3 ∷ [])
    ∷ lists (those (λ red. bad_sums red 6 10) (2 ∷ 3 ∷ 4 ∷ 4294967299 ∷ [])) (2 ∷ 4 ∷ 4294967299 ∷ [])
    ∷ lists (those (λ green. bad_sums 3 green 10) (5 ∷ 6 ∷ 7 ∷ [])) (5 ∷ 7 ∷ [])
    ∷ lists (those (λ blue. bad_sums 3 6 blue) (9 ∷ 10 ∷ 11 ∷ 18446744073709551615 ∷ []))
    (9 ∷ 11 ∷ 18446744073709551615 ∷ [])
    ∷ lists (those (λ n. bad_sums (3 + n) 6 (10 - n)) (0 ∷ 1 ∷ 2 ∷ [])) (1 ∷ 2 ∷ [])
    ∷ lists (those (λ n. bad_sums n (774 - 256 * n) 10) (2 ∷ 3 ∷ [])) (2 ∷ [])
    ∷ lists (those bad_white (4278190079 ∷ 4278190080 ∷ 4278190081 ∷ [])) (4278190079 ∷ 4278190081 ∷ [])
    ∷ lists (those (λ n. bad_table (record { used = 0; pixels = 0; red = 0; green = n; blue = 0 }) [] []) (0 ∷ 1 ∷ []))
    (1 ∷ [])
    -- 3 FULL: by the pixels there are; by the room for a colour that is there, and for one that is not
    ∷ lists (those (λ pixels. stops 1 (entry 0 pixels ∷ []) 0) (16777215 ∷ 16777216 ∷ [])) (16777216 ∷ [])
    ∷ lists (those (λ room. stops room (entry 0 1 ∷ []) 0) (1 ∷ 2 ∷ [])) []
    ∷ lists (those (λ room. stops room (entry 0 1 ∷ []) 1) (1 ∷ 2 ∷ [])) (1 ∷ [])
    -- 4 BAD COUNT, of a run and by lent coordinates
    ∷ lists (those bad_count (0 ∷ 1 ∷ 64 ∷ 65 ∷ [])) (0 ∷ 65 ∷ [])
    ∷ lists (those bad_coordinates (0 ∷ 1 ∷ 2 ∷ 3 ∷ 4 ∷ 5 ∷ 6 ∷ [])) (0 ∷ 1 ∷ 2 ∷ 4 ∷ 5 ∷ [])
    ∷ lists (those bad_coordinates (191 ∷ 192 ∷ 193 ∷ 195 ∷ [])) (191 ∷ 193 ∷ 195 ∷ [])
    -- 5 FEW COLOURS, by the shades wanted of no, and of 2 used entries
    ∷ lists (those (few_colours (used_only 0)) (0 ∷ 1 ∷ [])) (1 ∷ [])
    ∷ lists (those (few_colours (used_only 2)) (1 ∷ 2 ∷ 3 ∷ [])) (3 ∷ [])
    -- 6 BAD LIMIT
    ∷ lists (those bad_limit (0 ∷ 1 ∷ 200 ∷ 201 ∷ [])) (201 ∷ [])
    -- 7 SHORT ROOM: members for 2 used entries; totals for the limits 0, 1, 20 and 200; palette bytes for 2 shades;
    -- members, and palette bytes, where both are looked at (document 02); first places for 2 pixels in 5 index bytes
    ∷ lists (those (λ n. short_members (used_only 2) (zeros n)) (0 ∷ 1 ∷ 2 ∷ 3 ∷ [])) (0 ∷ 1 ∷ [])
    ∷ lists (those (λ n. short_totals 0 (zeros n)) (0 ∷ 20 ∷ 99 ∷ 100 ∷ [])) (0 ∷ 20 ∷ 99 ∷ [])
    ∷ lists (those (λ n. short_totals 1 (zeros n)) (0 ∷ 1 ∷ [])) (0 ∷ [])
    ∷ lists (those (λ n. short_totals 20 (zeros n)) (19 ∷ 20 ∷ [])) (19 ∷ [])
    ∷ lists (those (λ n. short_totals 200 (zeros n)) (199 ∷ 200 ∷ [])) (199 ∷ [])
    ∷ lists (those (λ n. short_palette (zeros 6) (zeros n)) (5 ∷ 6 ∷ 7 ∷ [])) (5 ∷ [])
    ∷ lists (those (λ n. short_rooms (used_only 2) (state_of (zeros 6) (zeros n)) (zeros 6)) (1 ∷ 2 ∷ 3 ∷ [])) (1 ∷ [])
    ∷ lists (those (λ n. short_rooms (used_only 2) (state_of (zeros 6) (zeros 2)) (zeros n)) (5 ∷ 6 ∷ 7 ∷ [])) (5 ∷ [])
    ∷ lists (those (short_index (zeros 6) (zeros 5)) (0 ∷ 3 ∷ 4 ∷ [])) (4 ∷ [])
    -- 8 BAD CENTRE, by the last of three coordinates
    ∷ lists (those (λ c. bad_centre (0 ∷ 0 ∷ c ∷ [])) (0 ∷ 4080 ∷ 4081 ∷ [])) (4081 ∷ [])
    -- 9 BAD MEMBER, by the first of two members for 2 shades, where both entries are used, and the first alone is
    ∷ lists (those (λ m. bad_member 2 2 (m ∷ 1 ∷ [])) (0 ∷ 1 ∷ 2 ∷ [])) (2 ∷ [])
    ∷ lists (those (λ m. bad_member 1 2 (1 ∷ m ∷ [])) (0 ∷ 1 ∷ 2 ∷ [])) []
    -- 10 BAD PALETTE, by the bytes
    ∷ lists (those (λ n. bad_palette (zeros n)) (0 ∷ 3 ∷ 4 ∷ 192 ∷ 193 ∷ 195 ∷ [])) (0 ∷ 4 ∷ 193 ∷ 195 ∷ [])
    -- 18 TWIN SHADE (document 02), by each level of the second of two entries
    ∷ lists (those (λ n. twin_shade (1 ∷ 2 ∷ 3 ∷ n ∷ 2 ∷ 3 ∷ [])) (0 ∷ 1 ∷ 2 ∷ [])) (1 ∷ [])
    ∷ lists (those (λ n. twin_shade (1 ∷ 2 ∷ 3 ∷ 1 ∷ n ∷ 3 ∷ [])) (1 ∷ 2 ∷ 3 ∷ [])) (2 ∷ [])
    ∷ lists (those (λ n. twin_shade (1 ∷ 2 ∷ 3 ∷ 1 ∷ 2 ∷ n ∷ [])) (2 ∷ 3 ∷ 4 ∷ [])) (3 ∷ [])
    -- the pair: 0 and 0 where all differ; neighbours, the first and the last; of two pairs, and of three equal entries,
    -- that with the smallest higher number
    ∷ lists (pair_in (5 ∷ 6 ∷ 7 ∷ 8 ∷ [])) (0 ∷ 0 ∷ [])
    ∷ lists (pair_in (5 ∷ 6 ∷ 6 ∷ 8 ∷ [])) (1 ∷ 2 ∷ [])
    ∷ lists (pair_in (5 ∷ 6 ∷ 7 ∷ 5 ∷ [])) (0 ∷ 3 ∷ [])
    ∷ lists (pair_in (5 ∷ 6 ∷ 6 ∷ 5 ∷ [])) (1 ∷ 2 ∷ [])
    ∷ lists (pair_in (5 ∷ 6 ∷ 5 ∷ 6 ∷ 5 ∷ [])) (0 ∷ 2 ∷ [])
    -- 12 BAD HEADER: a width of five digits is read, 1 by 1 with the raster from place 15 on; a sixth digit cannot
    -- stand at place 8
    ∷ lists (told (header_of (headed (48 ∷ 48 ∷ 48 ∷ 48 ∷ 49 ∷ [])))) (0 ∷ 1 ∷ 1 ∷ 255 ∷ 15 ∷ [])
    ∷ lists (told (header_of (headed (48 ∷ 48 ∷ 48 ∷ 48 ∷ 48 ∷ 49 ∷ [])))) (12 ∷ 8 ∷ [])
    -- 13 BAD SIZE: a side; a height for the widths 4096 and 16,384
    ∷ lists (those bad_side (0 ∷ 1 ∷ 16384 ∷ 16385 ∷ [])) (0 ∷ 16385 ∷ [])
    ∷ lists (those (bad_size 4096) (0 ∷ 1 ∷ 4096 ∷ 4097 ∷ [])) (0 ∷ 4097 ∷ [])
    ∷ lists (those (bad_size 16384) (1 ∷ 1024 ∷ 1025 ∷ [])) (1025 ∷ [])
    ∷ lists (those (λ width. bad_size width 1) (0 ∷ 1 ∷ 16384 ∷ 16385 ∷ [])) (0 ∷ 16385 ∷ [])
    -- 14 BAD DEPTH
    ∷ lists (those bad_depth (0 ∷ 254 ∷ 255 ∷ 256 ∷ [])) (0 ∷ 254 ∷ 256 ∷ [])
    -- 15 BAD RASTER, by the raster bytes of 2 by 1 pixels
    ∷ lists (those (bad_raster 2 1) (0 ∷ 5 ∷ 6 ∷ 7 ∷ [])) (0 ∷ 5 ∷ 7 ∷ [])
    -- the listing: a picture 8192 wide passes as far as its raster, one of 8193 is BAD SIZE
    ∷ says (first_of (small_rows (headed (56 ∷ 49 ∷ 57 ∷ 50 ∷ [])))) 15
    ∷ says (first_of (small_rows (headed (56 ∷ 49 ∷ 57 ∷ 51 ∷ [])))) 13
    -- an input of 65,536 bytes, and of one more
    ∷ lists (those (λ n. long_input (zeros n)) (65536 ∷ 65537 ∷ [])) (65537 ∷ [])
    -- its count line: 1 or 2 digits before LF, no fewer and no more
    ∷ lists (those (λ n. bad_line (replicate n 54 ++ (10 ∷ []))) (0 ∷ 1 ∷ 2 ∷ 3 ∷ [])) (0 ∷ 3 ∷ [])
    ∷ lists (map (λ n. count_in (replicate n 54 ++ (10 ∷ []))) (1 ∷ 2 ∷ [])) (6 ∷ 66 ∷ [])
    ∷ []
