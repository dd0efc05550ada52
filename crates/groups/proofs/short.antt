-- What the shortened grouping reads in the members while it writes them.
pub mod Formers
-- The groups' sums at the end.
pub mod Joining
