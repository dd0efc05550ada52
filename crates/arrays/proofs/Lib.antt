-- A record that is laid into an array and read again.
pub mod Records
