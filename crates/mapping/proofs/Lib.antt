-- What is shown, in full statements.
pub mod Promises
-- The tests, and the ways out of the call.
pub mod Ways
-- What the tests mean, what is refused, and what an accepted call leaves.
pub mod Meaning
-- What a call tells of twins.
pub mod Twins
-- What an accepted call answers.
pub mod Answers
-- A picture mapped in strips is the picture mapped whole.
pub mod Joins
