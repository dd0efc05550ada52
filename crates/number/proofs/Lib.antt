-- Case splits on a Bool and on an order, for every proof that goes by cases.
pub mod Cases
-- Laws of sums over places: one place more, bounds, place by place, sums of sums.
pub mod Sums
-- Laws of sums over a list.
pub mod ListSums
-- Laws of counts: one place more, and no more than the places.
pub mod Counts
-- Counts of tests that agree, of places in a row, of all, of some, of all but one, of two, and by value.
pub mod Tallies
-- Values that all differ are no more than the numbers that they can be.
pub mod Pigeonholes
-- Laws of filled lists: length, what a place holds, one store more.
pub mod Fills
-- A part of a list: what its places hold, and a list filled part by part.
pub mod Parts
-- Searches: the first best of places is one only, and `first_best` is it, over any order.
pub mod Searches
-- The lesser, the greater, the greatest and its first place, and the least.
pub mod Peaks
-- The first place that passes a test.
pub mod Firsts
-- The squared difference without a difference, and its bounds.
pub mod Squares
-- The cost of a whole shade in two parts, and Cauchy's inequality.
pub mod Costs
-- The rounded mean: near, halves up, best on the grid, its bound, in range.
pub mod Means
-- Fractional shades: the least cost, and that the true mean attains it.
pub mod Fractions
-- Jancey's step: the only such number, no dearer than staying, in range, at rest on the rounded mean only.
pub mod Leaps
-- What a reader may ask for: each theorem in full, with the proof it cites.
pub mod Promises
