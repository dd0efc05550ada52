-- Laws that the merge shares; the others stand with the module whose loop they serve, `count`.
-- Streaks added to a table from the back, and how far a walk has come.
pub mod Backs
-- The first streaks of a list, and the last of the first entries in two slices.
pub mod Firsts
