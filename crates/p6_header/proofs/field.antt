-- The ways a field is read.
pub mod Readings
