-- Glossary.
--   red_green, blue_pixels  red and green level of a key, and blue level and 1, each pair in one number
--   weighed f ks ws i       the weight of entry i times f of its key
pub mod Levels
unfoldable pub use Levels.{red_green, blue_pixels, weighed}
