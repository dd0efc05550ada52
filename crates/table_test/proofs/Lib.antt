-- A good table, fact by fact, and that the test of BAD TABLE fails exactly there.
pub mod Goods
-- What a reader may ask for: each theorem in full, with the proof it cites.
pub mod Promises
