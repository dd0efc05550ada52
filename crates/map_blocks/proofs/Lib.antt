-- What is shown, in full statements.
pub mod Promises
-- Shades that agree have the same nearest, so a palette may be searched as coordinates.
pub mod Widened
-- The errors of a strip: the channels together, two strips joined, and the most that they are.
pub mod Totals
-- The entry that a pixel gets is the nearest, and no other is.
pub mod Nears
