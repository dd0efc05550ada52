-- Squared differences added up: when two sums agree, what they are at most, and a sum in two parts.
pub mod Misses
-- Pixels of a strip: on the grid, those of a part of the strip, and those of two strips joined.
pub mod Pixels
-- Place after place the numbers are stored and the squared differences added up.
pub mod Settling
