-- Glossary.
--   RowsReady  what the walk along a row asks
pub mod Walking
pub use Walking.{RowsReady}
