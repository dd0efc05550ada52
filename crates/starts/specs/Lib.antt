-- Glossary.
--   shade_from    start number k, from the given ones
--   most_kept     what is kept before the first start
--   kept          an entry's distance to the nearest of the first k starts, kept and lowered shade by shade
--   mean_by_sums  the rounded mean of pixels, from their channel sums in whole levels
pub mod Keeping
pub mod Means
unfoldable pub use Keeping.{shade_from, most_kept, kept}
unfoldable pub use Means.{mean_by_sums}
