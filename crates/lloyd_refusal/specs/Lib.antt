-- Glossary. The words of the tests stand in table_test/specs and lloyd_tests/specs.
--   room_rows  the tests of limit and rooms, which every run has at the end
--   run_rows   the tests of a run in their order, with their refusals
pub mod Refusals
unfoldable pub use Refusals.{room_rows, run_rows}
