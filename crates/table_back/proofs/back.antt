-- The tests of the last keys.
pub mod Tests
-- Keys passed by sixteens: what holds at each turn.
pub mod Sixteens
