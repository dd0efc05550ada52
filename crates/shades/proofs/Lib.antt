-- What is shown, in full statements.
pub mod Promises
-- Shades laid in and read back; bounds of distances to shades.
pub mod Laying
-- The nearest shade by the least packed number, and the shortened search.
pub mod Nearest
-- What the tests of lent coordinates say.
pub mod Checks
-- A loop that counts by adding a test as a number.
pub mod Countings
-- A value repeated is a list filled with it.
pub mod Repeats
-- The library's lesser and greater are those of crate `number`.
pub mod Picks
