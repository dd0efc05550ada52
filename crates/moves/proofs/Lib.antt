-- The sums of a grouping say where the shades move.
pub mod Moving
-- Shade after shade is moved.
pub mod Turns
