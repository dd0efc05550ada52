-- The tests of a picture that is to be listed, and how long the raster of one that passes is.
pub mod Smalls
