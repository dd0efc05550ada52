-- Glossary.
--   SeriesMeets  what rounds to the first quiet one or the limit leave and answer
pub mod Meeting
pub use Meeting.{SeriesMeets}
