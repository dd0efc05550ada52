-- Slot after slot is told of, and its cells are read back.
pub mod Tells
