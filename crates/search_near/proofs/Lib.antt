-- The walk along a row: what holds at each place, and what it has found where it ends.
pub mod Walks
