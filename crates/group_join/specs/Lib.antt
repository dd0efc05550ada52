-- Glossary.
--   anew follow          the sums are taken anew
--   covered anew used i  how many entries the sums are over, once the first i of a grouping have joined
--   Grouped              what a grouping leaves and answers, whichever search finds the shades
pub mod Covering
pub mod Answer
unfoldable pub use Covering.{anew, covered}
pub use Answer.{Grouped}
