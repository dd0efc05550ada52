-- The kept distances are those to the nearest start so far, and the farthest entry by them is the next start.
pub mod Keeping
-- The mean by a table's sums is its rounded mean.
pub mod Means
