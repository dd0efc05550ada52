-- Glossary.
--   level_of coordinate         the whole part of (coordinate + 8) / 16
--   palette_of s d              the lent bytes d with the palette of the coordinates s in front
--   bad_palette                 the test of 10 BAD PALETTE
--   short_palette               the test of 7 SHORT ROOM of a palette from shades
--   palette_rows                the tests of the call in its order, with their refusals
--   PaletteOutcome              the answer and the lent palette at exit
--   made_palette, kept_palette  the outcome where nothing is refused, and where something is
--   palette_from_shades         the outcome of the call
--   PaletteMeets                the contract: answer and palette are those of the outcome
pub mod Palettes
pub mod Outcomes
unfoldable pub use Palettes.{level_of, palette_of}
unfoldable pub use Outcomes.{bad_palette, short_palette, palette_rows, made_palette, kept_palette, palette_from_shades}
pub use Outcomes.{PaletteOutcome, PaletteMeets}
