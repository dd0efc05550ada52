-- Glossary.
--   up_to list limit q  place q of the list is at most the limit
--   Distinct k f        no two of f 0 .. f (k - 1) are the same
--   RisingRow f k r     r 0 .. r (k - 1) are f 0 .. f (k - 1), each as often, rising
--   row_of g p j        place j of row p, each row having 64 places
--   Rows s k g          row p holds the packed distances from shade p to the k shades, rising
pub mod Sorting
unfoldable pub use Sorting.{up_to, Distinct, row_of}
pub use Sorting.{RisingRow, Rows}
