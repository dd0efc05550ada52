-- Glossary. A text is a list of bytes. The tests of a picture are words of the crate listing_test, the calls on one and
-- what they leave of the crate listing_work.
--   most_input             65536
--   bad_line, count_in, picture_in  the count line: malformed, the count it names, the picture behind it
--   CountLine              the input begins with 1 or 2 digits and LF
--   long_input             an input over 65,536 bytes
--   input_rows             the tests before the run, in their order
--   listing_rows           all tests: these, the run's, and then the mapping's
--   work_input             what the calls leave of an input
--   work_lines, work_text  the lines of what is left, and its text
--   listing_lines          the lines of a picture
--   picture_text           the text of an accepted picture: its lines, or the refusal of run or mapping
--   listing_text           the text of an input
--   text_room              the room of a listing, zeros
--   Listing, listing_of    the answer: the text in front of zeros, and its length
pub mod Refusals
pub mod Works
pub mod Listings
pub use declared.Listing.{Listing}
unfoldable pub use Refusals.{
  most_input,
  bad_line,
  count_in,
  picture_in,
  long_input,
  input_rows,
  listing_rows,
}
pub use Refusals.{CountLine}
unfoldable pub use Works.{work_input}
unfoldable pub use Listings.{
  work_lines,
  work_text,
  listing_lines,
  picture_text,
  listing_text,
  text_room,
  listing_of,
}
