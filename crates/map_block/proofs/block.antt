-- Slots searched: the numbers found are those of the nearest shades.
pub mod Searches
