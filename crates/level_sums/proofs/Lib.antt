-- How large what entries have of two levels gets: every sum stays below 2^64.
pub mod Bounds
