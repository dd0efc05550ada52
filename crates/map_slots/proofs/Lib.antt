-- Key after key takes its slot, and pixel after pixel.
pub mod Gathers
