-- What the calls leave of a picture.
pub mod Works
-- What they leave fits: shades, palette and index picture.
pub mod Rooms
-- What is never refused there: adding the picture, and of the run's tests all but two.
pub mod Accepted
-- That the palette is accepted, and the mapping unless there are twins; what they leave: numbers of shades, and small
-- numbers.
pub mod Mapped
