-- The entries of the palette, and that the sums of the groups give their levels.
pub mod Means
