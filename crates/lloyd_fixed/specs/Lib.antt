-- Glossary. The words of fixed shades stand in lloyd_stock/specs, those of a run and its outcome in lloyd/specs.
--   fixed_rows        the tests of a run with fixed shades in their order, with their refusals
--   fixed_rule fixed  Lloyd's rule with the fixed shades held
--   fixed_start       the state in which the run begins: from the fixed shades, every colour in shade 0
--   fixed_run         the outcome of the run
--   AcceptedFixed     answer and slices are those of one that is accepted
pub mod Outcomes
unfoldable pub use Outcomes.{fixed_rows, fixed_rule, fixed_start, fixed_run}
pub use Outcomes.{AcceptedFixed}
