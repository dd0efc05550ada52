-- One round: the grouping and the move together.
pub mod Stepping
