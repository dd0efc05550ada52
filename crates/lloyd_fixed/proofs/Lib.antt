-- What is shown, in full statements.
pub mod Promises
-- The outcome of the run, and what its tests give.
pub mod Wholes
-- What every accepted one is, where it begins, and where its fixed shades stand.
pub mod Accepted
-- A settled one under other limits; and that it depends on the used entries alone.
pub mod Used
