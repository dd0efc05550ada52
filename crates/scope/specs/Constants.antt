-- The numbers that the documents name: limits, the grid, the rounding of a mean and of a palette byte, and bytes.
use Rattle.std.specs.Prelude.{List, [], ◌∷◌, map}
use Rattle.number.specs.{rounded_mean, leap, numbers_below}
use Rattle.colour.specs.{
  most_level,
  most_key,
  most_coordinate,
  most_distance,
  most_pixels,
  key_of,
  red_of,
  green_of,
  blue_of,
  sixteenth,
  colour_of,
  distance,
}
use Rattle.table_entries.specs.{most_entries}
use Rattle.shades.specs.{most_shades, most_coordinates}
use Rattle.method.specs.{most_rounds, flat}
use Rattle.lloyd_tests.specs.{usual_limit, limit_of}
use Rattle.palette.specs.{level_of}
use Rattle.grammar.specs.{is_digit, most_digits, blank, line_feed}
use Rattle.p6_gap.specs.{is_white, hash, ends_comment}
use Rattle.p6_header.specs.{letter_p, figure_six}
use Rattle.p6.specs.{most_side, the_depth}
use Rattle.listing_test.specs.{most_listed}
use Rattle.listing_work.specs.{listed_limit}
use Rattle.listing.specs.{most_input}
use Rattle.sheets.specs.{Example}
use Rattle.scope.specs.Lines.{says, lists, those}

-- the limits, and what stands beside them in the text
abbrev pub constants : List Example
constants =
    -- a level is a byte; the key of R, G, B is 65536·R + 256·G + B, and the levels are read back from it
    says most_level 255
    ∷ says (key_of 1 2 3) 66051
    ∷ lists (red_of 66051 ∷ green_of 66051 ∷ blue_of 66051 ∷ []) (1 ∷ 2 ∷ 3 ∷ [])
    ∷ says most_key 16777215
    ∷ says (key_of 255 255 255) 16777215
    -- a table: at most 1,048,576 entries and 16,777,216 pixels
    ∷ says most_entries 1048576
    ∷ says most_pixels 16777216
    -- the grid: sixteenths of a level, 0 to 4080; the greatest distance
    ∷ lists (map sixteenth (0 ∷ 1 ∷ 255 ∷ [])) (0 ∷ 16 ∷ 4080 ∷ [])
    ∷ says most_coordinate 4080
    ∷ lists (flat (colour_of 66051)) (16 ∷ 32 ∷ 48 ∷ [])
    ∷ says (distance (colour_of 0) (colour_of 16777215)) 49939200
    ∷ says most_distance 49939200
    -- rounded mean, of 2 and of 3 pixels: halves go up
    ∷ lists (map (rounded_mean 2) (0 ∷ 1 ∷ 2 ∷ 3 ∷ [])) (0 ∷ 1 ∷ 1 ∷ 2 ∷ [])
    ∷ lists (map (rounded_mean 3) (0 ∷ 1 ∷ 2 ∷ 3 ∷ [])) (0 ∷ 0 ∷ 1 ∷ 1 ∷ [])
    -- Jancey's step (document 02), of 2 pixels about a mean of 3 1/2: nine fifths of the way, halves up, held to 0;
    -- where that is as far from the mean, the rounded mean, 4
    ∷ lists (map (leap most_coordinate 2 7) (0 ∷ 1 ∷ 2 ∷ 3 ∷ 4 ∷ 5 ∷ [])) (6 ∷ 4 ∷ 4 ∷ 4 ∷ 4 ∷ 4 ∷ [])
    ∷ lists (map (leap most_coordinate 2 7) (6 ∷ 7 ∷ 20 ∷ [])) (2 ∷ 1 ∷ 0 ∷ [])
    -- and of 5 pixels about 4079 2/5, from 4077 on: held to 4080 before it is compared
    ∷ lists (map (leap most_coordinate 5 20397) (4077 ∷ 4078 ∷ 4079 ∷ 4080 ∷ [])) (4080 ∷ 4080 ∷ 4079 ∷ 4079 ∷ [])
    -- shades 1 to 64, coordinates to 192
    ∷ says most_shades 64
    ∷ says most_coordinates 192
    -- rounds to 200; a limit of 0 means 100 (document 02, in place of 20)
    ∷ says most_rounds 200
    ∷ says usual_limit 100
    ∷ lists (map limit_of (0 ∷ 1 ∷ 20 ∷ 99 ∷ 100 ∷ 200 ∷ [])) (100 ∷ 1 ∷ 20 ∷ 99 ∷ 100 ∷ 200 ∷ [])
    -- palette byte: the whole part of (coordinate + 8) / 16
    ∷ lists (map level_of (0 ∷ 7 ∷ 8 ∷ 23 ∷ 24 ∷ [])) (0 ∷ 0 ∷ 1 ∷ 1 ∷ 2 ∷ [])
    ∷ lists (map level_of (4071 ∷ 4072 ∷ 4080 ∷ [])) (254 ∷ 255 ∷ 255 ∷ [])
    -- P6: the two letters, the white bytes TAB, LF, CR and blank of all bytes
    ∷ lists (letter_p ∷ figure_six ∷ []) (80 ∷ 54 ∷ [])
    ∷ lists (those is_white (numbers_below 256)) (9 ∷ 10 ∷ 13 ∷ 32 ∷ [])
    -- a comment (document 02): what opens it, and the bytes LF and CR that end it, of all bytes
    ∷ says hash 35
    ∷ lists (those ends_comment (numbers_below 256)) (10 ∷ 13 ∷ [])
    -- the digits, 1 to 5 of them
    ∷ lists (those is_digit (numbers_below 256)) (48 ∷ 49 ∷ 50 ∷ 51 ∷ 52 ∷ 53 ∷ 54 ∷ 55 ∷ 56 ∷ 57 ∷ [])
    ∷ says most_digits 5
    -- sides to 16,384, depth 255
    ∷ says most_side 16384
    ∷ says the_depth 255
    -- the listing: input to 65,536 bytes, pictures to 8,192 pixels, limit 20 (document 02, in place of 0); LF and blank
    ∷ says most_input 65536
    ∷ says most_listed 8192
    ∷ says listed_limit 20
    ∷ lists (line_feed ∷ blank ∷ []) (10 ∷ 32 ∷ [])
    ∷ []
