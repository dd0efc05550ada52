-- Glossary.
--   record_in        the record in an array of five numbers
--   record_numbers   a record as such an array
--   round_numbers    the answer of a round in an array: total, shades moved, distances; zeros for a refusal
--   run_numbers      that of a run: rounds, settled, distances, final total; zeros for a refusal
--   run_shades       the shades of a run, zeros for a refusal
--   map_numbers      that of a mapping: the error, that of R, G, B, 1 where there is a mean, and the twins
--   twins_in         the twins in that answer
--   figure_in        a mean's figure, zero for "no pixels"
--   map_figures      the figures of a mapping: the mean, and those of R, G, B
--   picture_numbers  the answer of a reading: offset, width, height, the raster's first place
pub mod Arrays
unfoldable pub use Arrays.{
  record_in,
  record_numbers,
  round_numbers,
  run_numbers,
  run_shades,
  map_numbers,
  twins_in,
  figure_in,
  map_figures,
  picture_numbers,
}
