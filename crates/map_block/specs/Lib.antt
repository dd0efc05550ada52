-- Glossary. A pixel, and how far pixels are from their shades, are `map_errors`'s.
--   nearest_to s k strip i  the nearest of k shades to pixel i, the lowest number at a tie
--   nearest_at s k c i      the nearest of k shades to point c i
--   FewTaken n which m      n pixels take m slots, which are few
pub mod Blocks
unfoldable pub use Blocks.{nearest_to, nearest_at}
pub use Blocks.{FewTaken}
