-- Glossary. A text is a list of bytes; that of a number is `decimal_text` of the crate grammar.
--   line_of numbers           numbers with a blank between, and LF
--   lines_of lines            lines one behind the other
--   with_text at text buffer  the buffer with a text from place `at` on
--   PutMeets                  so much was put, and the place behind it is answered
pub mod Lines
pub mod Putting
unfoldable pub use Lines.{line_of, lines_of}
unfoldable pub use Putting.{with_text}
pub use Putting.{PutMeets}
