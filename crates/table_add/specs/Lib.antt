-- Glossary; a table that stands in two slices or is laid into them is table_pixel's, streaks given from the back are
-- table_count's.
--   Addable         a strip has pixels to add, and the total has place for them
--   piece s from n  n pixels of a strip
--   Tried           what was tried, its levels added up, and what the slices have
pub mod Trying
unfoldable pub use Trying.{piece}
pub use Trying.{Addable, Tried}
