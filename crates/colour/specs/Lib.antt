-- Glossary. A level is a byte of a channel; a coordinate counts sixteenths of a level.
--   most_level                 255
--   most_key                   16777215, the key of (255, 255, 255)
--   Levels r g b               three levels of a byte each
--   key_of r g b               65536 * r + 256 * g + b
--   red_of, green_of, blue_of  the levels of a key's colour
--   Point                      three coordinates r, g, b
--   most_coordinate            4080, sixteen times 255
--   most_distance              49939200, three times the square of 4080
--   most_pixels                16777216
--   most_sum                   4278190080, 255 times the most pixels
--   Within m p                 no coordinate of p is above m
--   sixteenth level            16 * level
--   colour_of key              the point at which the key's colour stands
--   point_key c                the key of a colour in whole levels
--   distance p q               the sum of three squared differences
--   bad_strip s                the test of 1 BAD STRIP
--   Bytes s                    a list of bytes
--   joined_strips ss           strips joined from first to last
--   EachWhole ss               every strip has whole pixels
pub mod Key
pub mod Points
pub mod Strips
unfoldable pub use Key.{most_level, most_key, key_of, red_of, green_of, blue_of}
pub use Key.{Levels}
unfoldable pub use Points.{
  most_coordinate,
  most_distance,
  most_pixels,
  most_sum,
  sixteenth,
  colour_of,
  point_key,
  distance,
}
pub use Points.{Within}
pub use declared.Point.{Point}
unfoldable pub use Strips.{bad_strip, Bytes, joined_strips, EachWhole}
