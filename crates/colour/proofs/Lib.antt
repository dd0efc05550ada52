-- What is shown, in full statements.
pub mod Promises
-- A key and its colour's levels tell each other.
pub mod Keys
-- Laws of the distance, and where colours stand.
pub mod Distances
-- A difference of coordinates with a sign, and its square.
pub mod Signs
-- Which strips are whole.
pub mod Strips
