-- Glossary. Bytes come three by three: pixel i of a strip and entry i of a palette have the places 3i, 3i + 1, 3i + 2.
-- A pixel, and how far pixels are from their shades, are `map_errors`'s; the number that a pixel gets is `map_block`'s.
--   pixel_count strip          a third of the strip's bytes
--   entry_count palette        a third of the palette's bytes
--   entry_at palette q         entry q, in whole levels
--   entry_for palette strip i  the nearest entry to pixel i
--   NearestEntry p s i q       entry q is the nearest to pixel i, and every lower number is farther
--   errors_of palette strip n  the channel errors of the first n pixels
--   error_of palette strip n   their error: the sum of squared level differences
--   SmallErrors, Mappable      what adding errors up and mapping a strip ask
pub mod Meaning
pub mod Asking
unfoldable pub use Meaning.{pixel_count, entry_count, entry_at, entry_for, errors_of, error_of}
pub use Meaning.{NearestEntry}
pub use Asking.{SmallErrors, Mappable}
