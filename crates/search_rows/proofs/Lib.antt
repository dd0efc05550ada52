-- What a row holds: the values it was sorted from, each of them, and no others.
pub mod Contents
-- A list filled row by row, 64 places a row.
pub mod Fillings
