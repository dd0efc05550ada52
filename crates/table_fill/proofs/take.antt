-- The loops that take pixels, over any list of pixels: what holds at each turn.
pub mod Turn
-- The same over the first pixels of a strip, as the functions have them.
pub mod Steps
