-- Glossary; a key's place and the order of a list are table_back's.
--   hit k                    whether a key stands at its place among keys that rise
--   push i n v               v put in at place i, n values moved up
--   Standing                 a sound table stands in two slices
--   laid_keys, laid_weights  the slices with a table, where it goes in
pub mod Putting
pub mod Laying
unfoldable pub use Putting.{hit, push}
unfoldable pub use Laying.{laid_keys, laid_weights}
pub use Laying.{Standing}
