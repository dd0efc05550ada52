-- What is shown, in full statements.
pub mod Promises
-- What a figure's value is.
pub mod Quotients
-- Rounding to the nearest multiple of a unit.
pub mod Rounding
-- The figure is the nearest binary64 number.
pub mod Nearest
-- The means by their cases.
pub mod Cases
