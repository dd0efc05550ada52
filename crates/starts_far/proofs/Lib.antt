-- The loops over the kept distances: what holds at each turn.
pub mod Loops
