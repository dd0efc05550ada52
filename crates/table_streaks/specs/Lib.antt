-- Glossary.
--   a streak          1 to 256 equal pixels in one number: 256 * key + (pixels - 1)
--   streak_key        the key of a streak's colour
--   streak_pixels     the pixels of a streak
--   streak_sum f      f of a streak's key, once for each of its pixels
--   streak_count c    the pixels of colour c in a streak
--   joins_streak x k  one pixel more of colour k goes into the streak x
--   most_streaks      65,536: the longest list that is sorted
pub mod Streak
unfoldable pub use Streak.{streak_key, streak_pixels, streak_sum, streak_count, joins_streak, most_streaks}
