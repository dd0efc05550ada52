-- How far past the mean Jancey's step leads.
pub mod Steps
