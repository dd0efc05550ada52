-- Glossary.
--   ChannelSums   red, green, blue: the sums of the three channels, in whole levels
--   channel_sums  the levels of a list of pixels, added up
--   streak_sums   the levels of the pixels in streaks, added up
--   no_sums       the sums of no pixel
--   together a b  the sums of two lots of pixels together
--   SumsLow       no sum is above that of a full table of level 255
pub mod Sums
pub use declared.ChannelSums.{ChannelSums}
unfoldable pub use Sums.{channel_sums, streak_sums, no_sums, together}
pub use Sums.{SumsLow}
