-- Rounds one after the other: where they stand after r of them, and how they end.
pub mod Turns
