-- Glossary.
--   Gaps s k g  row p holds the distances from shade p to the k shades, in the order of their numbers
--   GapsReady   what the search through a row of gaps asks
pub mod Nearing
pub use Nearing.{Gaps, GapsReady}
