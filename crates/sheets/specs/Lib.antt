-- Glossary.
--   drawing                  the two by two pixels of sheets A to E, as bytes
--   keys_a, weights_a, record_a  sheet A's table
--   palette_c                sheet C's palette
--   whole n                  an odd whole number, or 0, as a binary64 number
--   weights_f, record_f      sheet F's weights on the same colours
--   keys_g, weights_g, record_g  sheet G's table
--   keys_h, weights_h, record_h  sheet H's table
--   members, totals          what is lent to rounds and runs
--   add_sheet, round_sheet, run_sheet, palette_sheet, map_sheet  the numbers of an outcome, in rows
--   round_row, run_row       those of what a round and a run answer, zeros for a refusal
--   shades_row               those of the shades of a run, zeros for a refusal
--   figure_row, mean_rows    those of a figure and of a mean square error
--   Example                  computed, written: what the definitions give, and what document 01 writes down
--   same_numbers, same_rows  two rows, and two lists of rows, are the same
--   all_hold table           every example comes out as written
--   example_at table         i example i of a table, counted from 0
--   distances_d r            the distances that sheet D's run works out in round r, counted from 0
--   sheet_a to sheet_i       the sheets, each as an example
--   sheets                   the table of all nine
pub mod Drawing
pub mod Numbers
pub mod Examples
pub mod Table
unfoldable pub use Drawing.{
  drawing,
  keys_a,
  weights_a,
  palette_c,
  whole,
  record_a,
  weights_f,
  record_f,
  keys_g,
  weights_g,
  record_g,
  keys_h,
  weights_h,
  record_h,
  members,
  totals,
}
unfoldable pub use Numbers.{
  add_sheet,
  round_row,
  round_sheet,
  run_row,
  shades_row,
  run_sheet,
  palette_sheet,
  figure_row,
  mean_rows,
  map_sheet,
}
pub use Examples.{Example}
unfoldable pub use Examples.{same_numbers, same_rows, all_hold, example_at}
unfoldable pub use Table.{
  distances_d,
  sheet_a,
  sheet_b,
  sheet_c,
  sheet_d,
  sheet_e,
  sheet_f,
  sheet_g,
  sheet_h,
  sheet_i,
  sheets,
}
