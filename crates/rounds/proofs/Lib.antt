-- Where a run begins, and what its rounds leave.
pub mod Beginnings
-- The mean of a table by its record.
pub mod Records
