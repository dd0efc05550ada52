-- The table of sheets: the theorems as promised, and their proofs.
pub mod Table
pub mod Promises
