-- The ways a header fails, and how it goes on.
pub mod Ways
