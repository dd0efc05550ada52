-- What is shown, in full statements.
pub mod Promises
-- A run by any rule from any given shades: refused or made.
pub mod By
-- The outcome of a run, and what the tests give.
pub mod Wholes
-- Where a run begins.
pub mod Beginnings
-- What a run that is made leaves and answers.
pub mod Made
-- Where it ends: what its last grouping costs, and a settled one.
pub mod Ends
-- What every accepted run answers and leaves.
pub mod Accepted
-- A run depends on the used entries alone.
pub mod Used
-- A settled run under other limits.
pub mod Limits
-- The rounds of a run as calls of single rounds, and what a settled run leaves lent to one.
pub mod Calls
