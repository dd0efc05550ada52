-- Glossary. A slot has four cells.
--   cell_of c s q e           what is told of a point and shade q: three squared differences, and the number
--   cells_of c s f x          cell x of what is told of many, four cells each
--   told_at told q e          cell e of slot q
--   told_of which told e i    cell e at the slot of pixel i
--   told_errors which told n  the squared differences told of n pixels, added up
--   Tellable, Told            what telling of slots, and adding up what is told, ask
pub mod Telling
unfoldable pub use Telling.{cell_of, cells_of, told_at, told_of, told_errors}
pub use Telling.{Tellable, Told}
