-- Slot after slot is joined.
pub mod Joins
