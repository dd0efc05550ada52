-- Glossary.
--   most_side                   16384
--   the_depth                   255
--   width_in, height_in, depth_in, start_in  what a header says; zeros for one that failed
--   is_bad                      a header failed
--   bad_header                  the test of 12 BAD HEADER
--   bad_side, bad_size          a side out of range; the test of 13 BAD SIZE
--   bad_depth                   the test of 14 BAD DEPTH
--   bad_raster                  the test of 15 BAD RASTER
--   picture_rows                the tests in their order, with their refusals
--   Picture                     width, height, start: a picture that is read
--   Fault                       refusal, offset: why there is none
--   PictureReading              Ok of a Picture, or Err of a Fault: the answer
--   refusal_in                  the refusal in an answer
--   picture_with width height start  the answer of a picture with these
--   refused_picture, made_picture  the answer where something is refused, and where nothing is
--   read_picture input          the answer on every input
--   raster_of input             the raster, nothing for a refused picture; raster_by by the answer
--   tested_picture, picture_by  the answer by a header and the input's length
--   unplaced                    an answer without the raster's first place
--   Alike                       two answers differ in the raster's first place at most
pub mod Refusals
pub mod Outcomes
pub use declared.Fault.{Fault}
pub use declared.Picture.{Picture}
unfoldable pub use Refusals.{
  most_side,
  the_depth,
  is_bad,
  width_in,
  height_in,
  depth_in,
  start_in,
  bad_header,
  bad_side,
  bad_size,
  bad_depth,
  bad_raster,
  picture_rows,
}
unfoldable pub use Outcomes.{
  PictureReading,
  refusal_in,
  refused_picture,
  picture_with,
  made_picture,
  read_picture,
  raster_by,
  raster_of,
  tested_picture,
  picture_by,
  unplaced,
  Alike,
}
