-- Glossary.
--   lift n i o  the n values before place i stored before place o
pub mod Lifting
unfoldable pub use Lifting.{lift}
