-- What is shown, in full statements.
pub mod Promises
-- What the tests say, fact by fact.
pub mod Checks
-- What a good table gives to a round.
pub mod Tables
