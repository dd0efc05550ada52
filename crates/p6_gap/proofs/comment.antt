-- The text of a comment as the loop meets it.
pub mod Turns
