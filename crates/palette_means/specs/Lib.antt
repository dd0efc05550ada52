-- Glossary.
--   shade_levels s q       shade q in whole levels, by the rule of a palette from shades
--   group_entry f .. q     the palette entry of shade q: the mean of its group, rounded once; the first f shades, and
--                          one with no group, keep their own levels
--   group_palette f ..     the lent bytes with these entries in front
--   level_by_sums f t s n  the level of coordinate n of the shades s, by the groups' sums t
pub mod Means
pub mod Reading
unfoldable pub use Means.{shade_levels, group_entry, group_palette}
unfoldable pub use Reading.{level_by_sums}
