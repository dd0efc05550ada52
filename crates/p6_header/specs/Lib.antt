-- Glossary.
--   letter_p, figure_six  the bytes of "P6"
--   number_behind input at start  the number at `start`, behind what begins at `at`
--   field_at input at     the reading of the white bytes and comments from `at` on and the number after them
--   reading_number, reading_values, ReadingSays  what a reading says in document 01's terms
--   Header                a header that was read: width, height, depth, and the first place after it
--   HeaderReading         Ok of a Header, or Err of the place it failed
--   header_with width height depth start  the reading of a header with these
--   and_then, last_white  how a header goes on after a number, and ends
--   fields_by, header_by  a header by a way to read its fields
--   header_of input       the header at the front of an input
--   header_number, header_values, HeaderSays  what it says in document 01's terms
--   offset_in header      the place it failed, 0 where it did not
--   whites_at, plain_field, plain_header  the same of document 01's header, which has no comments
--   Field                 a gap and a number, from one place to another
--   DigitsEnd             a field's digits end, by their count or by a byte that is none
--   FieldRead             a field stands, and its digits end
--   FieldFailed           a field fails, with no gap or no digit where one must stand, or in a comment that never ends
--   HeaderIn              so many first bytes are a header with these numbers
--   IsHeader              the bytes are a header and no more
--   PartEnds              "P6", the width or the height ends here
--   Between               a white byte between header parts may stand here
--   FirstWrong input at   the first byte that cannot stand there, or the end of an input that ends early
pub mod Bytes
pub mod Fields
pub mod Headers
pub mod Plain
pub mod Standing
pub use declared.Header.{Header}
unfoldable pub use Bytes.{letter_p, figure_six}
unfoldable pub use Fields.{number_behind, field_at, reading_number, reading_values, ReadingSays}
unfoldable pub use Headers.{
  HeaderReading,
  header_with,
  and_then,
  last_white,
  fields_by,
  header_by,
  header_of,
  header_number,
  header_values,
  HeaderSays,
  offset_in,
}
unfoldable pub use Plain.{whites_at, plain_field, plain_header}
unfoldable pub use Standing.{DigitsEnd, FirstWrong}
pub use Standing.{Field, FieldRead, FieldFailed, HeaderIn, IsHeader, PartEnds, Between}
