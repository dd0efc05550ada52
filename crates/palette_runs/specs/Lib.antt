-- Glossary. The words are those of lloyd/specs, palette_means/specs and palette_groups/specs.
--   run_palette          the outcome of a palette of groups on what a run answers and leaves
--   run_palette_fixed f  the same with the first f shades fixed
pub mod Palettes
unfoldable pub use Palettes.{run_palette, run_palette_fixed}
