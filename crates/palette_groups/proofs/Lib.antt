-- What is shown, in full statements.
pub mod Promises
-- What the tests mean, what is refused, and what a palette made holds.
pub mod Meaning
-- The same where the first shades are fixed.
pub mod MeaningFixed
-- The tests, and the ways out of the call that is told how many are fixed.
pub mod Ways
