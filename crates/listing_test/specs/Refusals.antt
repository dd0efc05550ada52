-- When a picture that is to be listed is refused.
use Rattle.std.specs.Prelude.{ℕ, ◌-◌, ◌*◌, ◌||◌, List, [], ◌∷◌, ltb, length}
use Rattle.refusal.specs.{Row, row, BadHeader, BadSize, BadDepth, BadRaster}
use Rattle.p6_header.specs.{header_of}
use Rattle.p6.specs.{width_in, height_in, depth_in, start_in, bad_header, bad_size, bad_depth, bad_raster}

-- the most pixels of a picture that is listed
abbrev pub most_listed : ℕ
most_listed = 8192

-- the picture's own, where over 8,192 pixels is BAD SIZE too: 12, 13, 14, 15
abbrev pub small_rows : List ℕ → List Row
small_rows p =
    let h = header_of p in
    row (bad_header p) BadHeader
    ∷ row (bad_size (width_in h) (height_in h) || ltb most_listed (width_in h * height_in h)) BadSize
    ∷ row (bad_depth (depth_in h)) BadDepth
    ∷ row (bad_raster (width_in h) (height_in h) (length p - start_in h)) BadRaster
    ∷ []
