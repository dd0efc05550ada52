-- What is shown, in full statements.
pub mod Promises
-- Laws of spans: how many bytes of one kind stand from a place on, and that only that many do.
pub mod Spans
-- Laws of decimal values: one digit more, a bound, and digits that agree.
pub mod Decimals
-- The ways a number is read.
pub mod Readings
-- The text of a number: its last digit and those before it, and its length.
pub mod Texts
-- Its value, its digits, and its first digit.
pub mod Values
-- At most one byte is the first wrong one, and none of a word.
pub mod Wrongs
-- A machine whose states can all be completed dies at the first wrong byte.
pub mod Machines
-- A machine of items: its words are those of the items, one behind the other.
pub mod Items
-- A machine that looks at the front of its input.
pub mod Fronts
-- Machines over the places of an input.
pub mod Places
-- The first wrong byte of an input that should begin with a word, by the words alone.
pub mod FrontWrongs
