-- Glossary.
--   given m f q i     what entry i gives to group q, where it is in group m i
--   placed t q x y    the sums t with x and y for those of group q
--   raised, lowered   the same with x and y added to those of group q, and taken from them
--   Summed            the sums of 64 groups over some entries
--   member_at         the group of an entry, as the members tell
--   Assigned          the members tell one of 64 groups for each entry
--   group_pixels t q  the pixel count of group q, read from the sums t
--   level_sum t e q   its sum of channel e, in whole levels
--   Measured t        each group has at most 16,777,216 pixels, and sums of at most 255 for each
pub mod Summing
pub mod Reading
unfoldable pub use Summing.{given, placed, raised, lowered, member_at}
pub use Summing.{Summed, Assigned}
unfoldable pub use Reading.{group_pixels, level_sum}
pub use Reading.{Measured}
