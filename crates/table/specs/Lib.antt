-- Glossary; the record, the room and the test of a table are table_test's, and are passed on.
--   Record               used, pixels, red, green, blue: entries used, the pixel total, the three channel sums
--   Added                refusal, taken, rec: the answer of an add
--   room_of              the shorter of the two lent slices, capped at 1,048,576
--   record_of            the record of a table
--   empty_record         the record of an empty table
--   bad_table            the test of 2 BAD TABLE; bad_counts with no look at the channel sums, other_sums that look
--   GoodTable            a good table, fact by fact
--   full                 the test of 3 FULL
--   add_rows             these tests in the order of adding, with their refusals
--   add_refusal          the refusal of the first that holds
--   Outcome              the answer and both slices at exit
--   refused, as_it_came  the answer, and the outcome, where nothing is taken and all is as it came
--   with_pixels          the outcome of a list's pixels taken as far as they go in; taken_into that of a strip's
--   hands_back           a refusal before the first pixel: BAD STRIP, BAD TABLE
--   left_by_add          what a refusal leaves
--   add_strip            the outcome of adding a strip
--   AddMeets             the contract: answer and slices are those of the outcome
--   table_after          the table in an outcome's slices
--   AddedAll             taken, rec, keys, weights: what calls one after the other leave; added_by the same of one call
--   add_strips           what the calls for a list of strips leave, from the first strip to the last
--   EachAdded            every one of them is accepted
pub mod Refusals
pub mod Outcomes
pub mod Pieces
pub use Rattle.table_test.specs.{Record, GoodTable}
unfoldable pub use Rattle.table_test.specs.{room_of, record_of, empty_record, bad_table, bad_counts, other_sums}
pub use declared.Added.{Added}
unfoldable pub use Refusals.{full, add_rows, add_refusal}
unfoldable pub use Outcomes.{
  refused,
  as_it_came,
  with_pixels,
  hands_back,
  taken_into,
  left_by_add,
  add_strip,
  table_after,
}
pub use Outcomes.{Outcome, AddMeets}
unfoldable pub use Pieces.{added_by, add_strips, EachAdded}
pub use Pieces.{AddedAll}
