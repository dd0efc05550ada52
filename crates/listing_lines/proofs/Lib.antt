-- What is shown, in full statements.
pub mod Promises
-- Laws of lines: how they are put field by field and one behind the other, and how long they are.
pub mod Lines
-- The lines of the shades, and all lines.
pub mod Rows
-- The lines one by one and their fields; and that no lines are the line of a refusal.
pub mod Fields
