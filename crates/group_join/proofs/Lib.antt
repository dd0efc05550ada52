-- The sums are over all entries at the end of a grouping.
pub mod Covering
-- One turn of a grouping, whichever search finds the shades: what holds, what fits, and what is left at the end.
pub mod Turns
