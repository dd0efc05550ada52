-- The loop over the entries: what holds at each turn.
pub mod Turn
-- Each way out of the comparison with the record's sums.
pub mod Ways
