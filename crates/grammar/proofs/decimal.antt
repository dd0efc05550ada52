-- The digits that are read: few, and a part of the input.
pub mod Parts
