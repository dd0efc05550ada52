-- An entry that joins a group, and the members beside it.
pub mod Joining
