-- Glossary. Places are the numbers below a count; the count comes first.
--   sum n f                f 0 + .. + f (n - 1)
--   sum_of f xs            f added up over the elements of a list
--   numbers_below n        the list of the numbers below n
--   bit test               1 where the test holds, else 0
--   how_many n b           how many places below n pass the test b
--   fill n f d             the list d with f 0 .. f (n - 1) in front, the rest kept
--   fill_from a n f d      the same from place a on
--   first_best t n f       the lowest place below n with the best value, `t a b` saying that a is better
--   least, most            first_best for the least and for the greatest value
--   lesser_of, greater_of  the lesser and the greater of two numbers
--   peak n f               the greatest value below n
--   lowest top n f         the least of `top` and the values below n
--   first_that n b         the lowest place below n that passes the test b, n where none does
--   First n b m            m is that place
--   Best                   a place is the first best of a set of places
--   Order                  a test and the relation it decides, fit for a search
--   gap, sq                the difference of two numbers either way round, and its square
--   Group, W, S, Q         a weighted group on one coordinate, and its three sums
--   cost                   what a whole shade costs a group
--   rounded_mean           the whole part of (2S + W) / (2W)
--   Nearest w s x          x is the whole number nearest to s / w, a half going up
--   scale                  a group drawn k times as large
--   past_mean              nine fifths of the way to the mean, rounded
--   held_past              that, held to a top
--   leap                   Jancey's step: there, where that is nearer to the mean, else the rounded mean
--   NearestPast            a number is nine fifths of the way, to the nearest whole number, a half going up
--   Leaps                  a number is Jancey's step
pub mod Sum
pub mod Count
pub mod Fill
pub mod Search
pub mod Square
pub mod Groups
pub mod Past
unfoldable pub use Sum.{sum, sum_of, numbers_below}
unfoldable pub use Count.{bit, how_many}
unfoldable pub use Fill.{fill, fill_from}
unfoldable pub use Search.{first_best, least, most, lesser_of, greater_of, peak, lowest, first_that}
pub use Search.{Best, Order, First}
unfoldable pub use Square.{gap, sq}
unfoldable pub use Groups.{W, S, Q, cost, rounded_mean, scale}
pub use Groups.{Group, Nearest}
unfoldable pub use Past.{past_mean, held_past, leap}
pub use Past.{NearestPast, Leaps}
