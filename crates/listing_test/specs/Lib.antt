-- Glossary.
--   most_listed  8192
--   small_rows   the picture's own tests, where over 8,192 pixels is BAD SIZE too
pub mod Refusals
unfoldable pub use Refusals.{most_listed, small_rows}
