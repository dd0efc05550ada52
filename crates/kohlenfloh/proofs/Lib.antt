-- how outcomes cross in arrays
pub mod Arrays
-- what a refusal leaves in slices and arrays
pub mod Refusing
-- what an accepted run leaves in slices and arrays
pub mod Runs
-- what is shown of the boundary
pub mod Promises
