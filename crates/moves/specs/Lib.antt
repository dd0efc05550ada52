-- Glossary.
--   goes move t s n        where coordinate n of the shades s goes, by the sums t and a rule on one coordinate
--   stays move t s q       the three coordinates of shade q stay
--   leaps stride           the shades leap past their means
--   with_moved move t s q  the shades with shade q moved
pub mod Reading
pub mod Striding
unfoldable pub use Reading.{goes, stays, with_moved}
unfoldable pub use Striding.{leaps}
