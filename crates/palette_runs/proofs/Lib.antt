-- What is shown, in full statements.
pub mod Promises
-- The palette of an accepted run.
pub mod Runs
-- The palette of a run that is made, by any rule and with any number of fixed shades.
pub mod RunsFixed
