-- What is shown, in full statements.
pub mod Promises
-- What the tests of a run with fixed shades say, fact by fact.
pub mod Checks
-- Values among others: whether one is, and how many are none of some.
pub mod Matches
-- Where fixed shades stand, and a list that they are laid into.
pub mod Stocks
-- Which used colours are unlike every fixed shade, and how many.
pub mod Lefts
