-- When a picture is refused: one test a row of document 01's table, and the order of the rows.
use Rattle.std.specs.Prelude.{ℕ, ◌-◌, ◌*◌, Bool, true, false, not, ◌||◌, List, [], ◌∷◌, ltb, eqb, length, Ok, Err}
use Rattle.refusal.specs.{Row, row, BadHeader, BadSize, BadDepth, BadRaster}
use Rattle.colour.specs.{most_pixels}
use Rattle.p6_header.specs.{HeaderReading, header_of}

-- the longest side
abbrev pub most_side : ℕ
most_side = 16384

-- the only depth
abbrev pub the_depth : ℕ
the_depth = 255

-- ---- what a header says; zeros for one that failed

-- it failed
abbrev pub is_bad : HeaderReading → Bool
is_bad (Ok header) = false
is_bad (Err at) = true

-- its width
abbrev pub width_in : HeaderReading → ℕ
width_in (Ok header) = header.width
width_in (Err at) = 0

-- its height
abbrev pub height_in : HeaderReading → ℕ
height_in (Ok header) = header.height
height_in (Err at) = 0

-- its depth
abbrev pub depth_in : HeaderReading → ℕ
depth_in (Ok header) = header.depth
depth_in (Err at) = 0

-- the first place after it
abbrev pub start_in : HeaderReading → ℕ
start_in (Ok header) = header.start
start_in (Err at) = 0

-- ---- the tests

-- BAD HEADER: the input does not begin with a header
abbrev pub bad_header : List ℕ → Bool
bad_header input = is_bad (header_of input)

-- a side is not 1 to 16,384
abbrev pub bad_side : ℕ → Bool
bad_side side = ltb side 1 || ltb most_side side

-- BAD SIZE: sides or product out of range
abbrev pub bad_size : ℕ → ℕ → Bool
bad_size width height = bad_side width || (bad_side height || ltb most_pixels (width * height))

-- BAD DEPTH: depth not 255
abbrev pub bad_depth : ℕ → Bool
bad_depth depth = not (eqb depth the_depth)

-- BAD RASTER: so many raster bytes are not 3 × width × height
abbrev pub bad_raster : ℕ → ℕ → ℕ → Bool
bad_raster width height bytes = not (eqb bytes (3 * (width * height)))

-- the order of a picture: 12, 13, 14, 15
abbrev pub picture_rows : List ℕ → List Row
picture_rows input =
    let header = header_of input in
    row (bad_header input) BadHeader
    ∷ row (bad_size (width_in header) (height_in header)) BadSize
    ∷ row (bad_depth (depth_in header)) BadDepth
    ∷ row (bad_raster (width_in header) (height_in header) (length input - start_in header)) BadRaster
    ∷ []
