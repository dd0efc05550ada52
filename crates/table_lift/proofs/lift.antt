-- Values lifted: stored as far up as each other.
pub mod Lifts
