-- Glossary.
--   Able       a strip has pixels to take, and the table's total has place for them
--   TookMeets  what taking pixels answers and leaves
pub mod Taking
pub use Taking.{Able, TookMeets}
