-- What reading a picture answers, and its raster, on every input.
use Rattle.std.specs.Prelude.{ℕ, ◌-◌, Bool, cond, List, [], ◌≡◌, drop, Option, None, Some, Result, Ok, Err}
use Rattle.refusal.specs.{Refusal, outcome_by, BadHeader, BadSize, BadDepth, BadRaster}
use Rattle.p6_header.specs.{HeaderReading, header_of, offset_in}
use Rattle.p6.specs.Refusals.{width_in, height_in, start_in, bad_size, bad_depth, bad_raster, picture_rows}
use Rattle.p6.specs.declared.Fault.{Fault}
use Rattle.p6.specs.declared.Picture.{Picture}

-- what reading a picture answers: a picture, or why there is none
abbrev pub PictureReading : Type 0
PictureReading = Result Picture Fault

-- the refusal in an answer
abbrev pub refusal_in : PictureReading → Option Refusal
refusal_in (Ok picture) = None
refusal_in (Err fault) = Some fault.refusal

-- the answer of a refusal, with the offset
abbrev pub refused_picture : Refusal → ℕ → PictureReading
refused_picture n offset = Err (record { refusal = n; offset = offset })

-- the answer of a picture with these sides, whose raster begins here
abbrev pub picture_with : ℕ → ℕ → ℕ → PictureReading
picture_with width height start = Ok (record { width = width; height = height; start = start })

-- the answer of a picture that is read
abbrev pub made_picture : List ℕ → PictureReading
made_picture input =
    let header = header_of input in
    picture_with (width_in header) (height_in header) (start_in header)

-- the answer of the call: a header that is read has no offset
unfoldable pub read_picture : List ℕ → PictureReading
read_picture input =
    outcome_by (picture_rows input) (made_picture input) (λ n. refused_picture n (offset_in (header_of input)))

-- the raster in an input by the answer: from the raster's first place on; nothing for a refused picture
abbrev pub raster_by : PictureReading → List ℕ → List ℕ
raster_by (Ok picture) input = drop picture.start input
raster_by (Err fault) input = []

-- the raster
unfoldable pub raster_of : List ℕ → List ℕ
raster_of input = raster_by (read_picture input) input

-- ---- the same, told from a header and the input's length

-- the answer where a header is read, by what the tests of size, depth and raster say, its sides and the place after it
abbrev pub tested_picture : Bool → Bool → Bool → ℕ → ℕ → ℕ → PictureReading
tested_picture size depth raster width height start =
    cond size (refused_picture BadSize 0)
    (cond depth (refused_picture BadDepth 0)
    (cond raster (refused_picture BadRaster 0)
    (picture_with width height start)))

-- the answer by a header, in front of an input of so many bytes
abbrev pub picture_by : HeaderReading → ℕ → PictureReading
picture_by (Err at) bytes = refused_picture BadHeader at
picture_by (Ok header) bytes =
    tested_picture (bad_size header.width header.height) (bad_depth header.depth)
    (bad_raster header.width header.height (bytes - header.start)) header.width header.height header.start

-- an answer without the raster's first place
abbrev pub unplaced : PictureReading → PictureReading
unplaced (Ok picture) = picture_with picture.width picture.height 0
unplaced (Err fault) = Err fault

-- two answers differ in the raster's first place at most: both have one refusal and offset, or both the same sides
abbrev pub Alike : PictureReading → PictureReading → Type 0
Alike p q = unplaced p ≡ unplaced q
