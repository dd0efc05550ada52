-- What is shown, in full statements.
pub mod Promises
-- BAD HEADER and its offset.
pub mod Headers
-- Pictures with comments in their headers.
pub mod Comments
-- What the tests mean, and what a picture and its raster are.
pub mod Meaning
-- The ways out of the call, by the header and the tests.
pub mod Ways
