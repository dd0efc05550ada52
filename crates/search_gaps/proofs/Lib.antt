-- Rows of gaps, one after the other; and the search that goes through one.
pub mod Nears
