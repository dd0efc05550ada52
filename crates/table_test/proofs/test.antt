-- The loop over the weights: what holds at each turn.
pub mod Turn
-- What the test counts, and that it counts nothing exactly where the entries are sound.
pub mod Faultless
-- Each way out of the test: what it answers there is the test of BAD TABLE.
pub mod Ways
