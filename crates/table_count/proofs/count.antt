-- The walk that counts: what holds at each turn.
pub mod Counting
