-- Glossary.
--   listed_zeros         8,192 zeros
--   listed_limit         20, the most rounds of a listed run
--   listed_totals        a zero for the total of each
--   table_of, run_on     the table of a picture, and the run on it
--   ran_on, no_run       what that run answers; zeros where it is refused
--   run_tests            the run's tests, in their order
--   palette_of_run       the palette of a run on a table, by its last groups
--   palette_on           that of the run on a picture
--   entries_on           the entries of its shades
--   mapped_raster        a raster mapped to the first entries of a palette
--   raster_tests         the tests of that mapping, in their order
--   map_tests            those of a picture and the palette of its run
--   work_tests           the run's tests, and then the mapping's
--   Work                 what the calls leave: all that the lines tell
--   summary_of           what is told besides the shades
--   work_run, made_work  what is told of a run, and of a picture, where nothing is refused
--   left_run             what is left of a run: that, or the mapping's refusal
--   work_picture         what is left of a picture: that, or the refusal of the run or of the mapping
--   Fits                 at most 64 shades, and room for shades and pixels
--   LeftFits             so it is where nothing is refused
pub mod Works
pub use declared.Work.{Work}
unfoldable pub use Works.{
  listed_zeros,
  listed_limit,
  listed_totals,
  table_of,
  run_on,
  no_run,
  ran_on,
  run_tests,
  palette_of_run,
  palette_on,
  entries_on,
  mapped_raster,
  raster_tests,
  map_tests,
  work_tests,
  summary_of,
  work_run,
  left_run,
  made_work,
  work_picture,
  LeftFits,
}
pub use Works.{Fits}
