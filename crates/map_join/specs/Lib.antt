-- Glossary. The words of slots stand in map_slots.
--   few_slots  256, the most slots that are joined
pub mod Joining
unfoldable pub use Joining.{few_slots}
