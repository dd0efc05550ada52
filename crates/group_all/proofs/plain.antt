-- What the plain grouping reads in the members while it writes them.
pub mod Founds
-- The sums of the groups, raised with each entry.
pub mod Raising
