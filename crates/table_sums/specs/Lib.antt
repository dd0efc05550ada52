-- Glossary.
--   red_sum, green_sum, blue_sum  the sums of the three channels over the first n entries of two slices
--   mix_of r b     r + 16777216 b
--   Two R G B f s  f is 65536 R + 256 G + B, s is mix_of R B, and no sum is above that of a full table of level 255
--   three_same     three sums are three others, one by one
pub mod Telling
unfoldable pub use Telling.{mix_of, red_sum, green_sum, blue_sum, three_same}
pub use Telling.{Two}
pub use declared.TwoSums.{TwoSums}
