-- Choosing a start from the kept distances, and storing start after start: what holds at each turn.
pub mod Choosing
