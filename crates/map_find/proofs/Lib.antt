-- Keys laid out and searched.
pub mod Finds
