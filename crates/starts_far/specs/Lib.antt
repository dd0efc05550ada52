-- Glossary.
--   lower_kept  an entry's kept distance, lowered to that to a point
--   Keyed       some entries lie in the keys
pub mod Lowering
unfoldable pub use Lowering.{lower_kept}
pub use Lowering.{Keyed}
