-- Glossary.
--   Runnable  what a run asks
pub mod Asking
pub use Asking.{Runnable}
