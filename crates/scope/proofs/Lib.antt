-- The table comes out, by computation; and the order of each call's refusals.
pub mod Table
-- What a reader may ask for: each theorem in full, with the proof it cites.
pub mod Promises
