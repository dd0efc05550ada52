-- White bytes and comments in a row as the loop meets them.
pub mod Turns
