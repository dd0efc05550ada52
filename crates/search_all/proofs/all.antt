-- The least packed number, lowered shade by shade, is that of the nearest.
pub mod Leasts
-- Block after block, the colours of a table are searched.
pub mod Blocks
