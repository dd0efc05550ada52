-- Glossary.
--   give_back     the streaks of a list added to a table, the last one first
--   with_streaks  the table in two slices with the first streaks of a list
pub mod Giving
unfoldable pub use Giving.{give_back, with_streaks}
