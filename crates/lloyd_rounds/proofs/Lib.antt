-- What is shown, in full statements.
pub mod Promises
-- The outcomes of single rounds.
pub mod Rounds
-- The ways in which a shortened round is refused.
pub mod Ways
-- Single rounds that are accepted.
pub mod Accepts
