-- Glossary.
--   Groupable     what a grouping from the former shades asks
--   of_gaps kind  the rows are of gaps
--   Tracks        rows for the shortened search: of gaps on a small table, else rows that rise
pub mod Grouping
pub use Grouping.{Groupable}
unfoldable pub use Grouping.{of_gaps, Tracks}
