-- What is shown, in full statements.
pub mod Promises
-- Laws of texts in a buffer: how they are put one behind the other, and at once.
pub mod Texts
