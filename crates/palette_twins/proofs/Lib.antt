-- What is shown, in full statements.
pub mod Promises
-- What the test means, and which pair is told.
pub mod Meaning
-- Equal entries have one key and one site.
pub mod Sites
-- Entry after entry, the twins are looked for.
pub mod Finds
