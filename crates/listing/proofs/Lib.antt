-- What is shown, in full statements.
pub mod Promises
-- The count line, and the picture behind it.
pub mod Fronts
-- What the calls leave of an input.
pub mod Works
-- What they leave fits: shades, palette and index picture.
pub mod Rooms
-- The text of what they leave, and its length.
pub mod Texts
-- Which text is printed exactly when.
pub mod Orders
-- The numbers that are printed: the pixels add up, and each is small.
pub mod Numbers
