-- The loop that gathers pixels as streaks: what holds at each turn.
pub mod Gathers
