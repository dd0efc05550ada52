-- No other three sums have both numbers, and how large the sums are.
pub mod Telling
-- What a reader may ask for: each theorem in full, with the proof it cites.
pub mod Promises
