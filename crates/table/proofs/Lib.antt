-- The outcome of adding a strip on each way out of the call.
pub mod Adds
-- What adding means: refusals, weights, good tables, prefixes, strips joined.
pub mod Meaning
-- What the pixels taken add.
pub mod Taken
-- Strips joined, and an empty strip.
pub mod Joins
-- Strips added one after the other, in any number.
pub mod Pieces
-- What a reader may ask for: each theorem in full, with the proof it cites.
pub mod Promises
