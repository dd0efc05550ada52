-- The loop over streaks: what holds at each turn.
pub mod Adding
