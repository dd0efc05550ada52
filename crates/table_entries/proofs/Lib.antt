-- What the test of entries says, and that their keys rise.
pub mod Sounds
-- Pixels added to a table: length, pixel total, weights, soundness.
pub mod Gives
-- A table is determined by the weights of its colours.
pub mod Same
-- A table in two slices: read from them, laid into them.
pub mod Slices
-- The pixels of a strip of bytes.
pub mod Strips
-- Which pixels of a list are taken, and the table with them.
pub mod Takes
-- Sound entries, place by place.
pub mod Rows
-- What a reader may ask for: each theorem in full, with the proof it cites.
pub mod Promises
