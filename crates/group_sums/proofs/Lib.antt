-- How large what entries give can get: every sum stays below 2^64.
pub mod Bounds
-- The sums of the groups over no entry, and over one entry more.
pub mod Summing
-- The sums where one entry goes to another group.
pub mod Moving
-- Sums that stand two in one number, taken apart: the pixel count and the sums of levels of a group.
pub mod Parts
