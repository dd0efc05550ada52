-- Glossary.
-- A line of the table is an `Example` of the crate sheets: what the definitions give, and what document 01 writes down,
-- or document 02 in its place.
--   says n m           the line of one number
--   lists ns ms        the line of some numbers
--   those test ns      the numbers of a list at which a test holds
--   refusals           the refusals by name, with their numbers
--   constants          the limits, and the bytes by name
--   zeros, used_only, bad_pair, headed  what the tests are tried on: slices, records, tables of two entries, headers
--   told header        what a header says: its number, and its values
--   bounds             each test at its boundary: of the values tried, those that are refused
--   after_letters, after_width, around_depth  headers of 1 by 1 pixel with some bytes between their parts
--   comments           headers with comments: what is read of each, or where it fails
--   scope_table        the table of all of these
--   constants_fixed, bounds_fixed  the most fixed shades, and each test that speaks of them at its boundary
--   scope_table_fixed  the table of these
--   order_of rows      the numbers of some rows, in their order
pub mod Lines
pub mod Refusals
pub mod Constants
pub mod Bounds
pub mod Comments
pub mod Table
pub mod Fixed
unfoldable pub use Lines.{says, lists, those, order_of}
unfoldable pub use Refusals.{refusals}
unfoldable pub use Constants.{constants}
unfoldable pub use Bounds.{zeros, bad_pair, used_only, headed, told, bounds}
unfoldable pub use Comments.{after_letters, after_width, around_depth, comments}
unfoldable pub use Table.{scope_table}
unfoldable pub use Fixed.{constants_fixed, bounds_fixed, scope_table_fixed}
