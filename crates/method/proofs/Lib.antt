-- What is shown, in full statements.
pub mod Promises
-- What a shade costs weighted colours, and Lloyd's rule.
pub mod Costs
-- Jancey's rule, both rules as one, and rules on one coordinate.
pub mod Rules
-- Shades at fractions of whole numbers of either sign.
pub mod Fractions
-- A total is the sum of what the groups cost; the nearest grouping has the least.
pub mod Totals
-- Totals never rise, over any rule that costs a group no more than staying.
pub mod Falls
-- The bounds of several groups, added up as a fraction.
pub mod Bounds
-- What a round leaves, by a rule that goes to the mean from some shade on; and a round that moves no shade.
pub mod Ends
-- One coordinate at a time: the mean, Lloyd's rule, sums in sixteenths and in whole levels.
pub mod Axes
-- How many rounds a run makes.
pub mod Runs
-- What a table's colours are at most.
pub mod Sizes
-- How far colours are from their nearest shade, and how many can stand on one.
pub mod Covers
-- The starting shades: read back one by one, and on the grid.
pub mod Startings
-- The state in which a run begins.
pub mod Begins
-- A round of k shades reads and moves the first 3k coordinates alone.
pub mod Fronts
-- Rounds and runs depend on the places that a table has, and on nothing past them.
pub mod Used
