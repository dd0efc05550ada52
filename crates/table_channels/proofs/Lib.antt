-- Laws of the sums: of one pixel, of pixels in two lots, how large they get, and that streaks have those of their
-- pixels.
pub mod Sums
