-- Glossary.
--   Colours                a number n of places, each with a weight and a point
--   colours_of n ks ws     the table in two slices, by place
--   level_colours n ks ws  the same in whole levels
--   pixels_in C            W, the sum of the weights
--   sums_of C              S1, S2, S3, the weighted sums of the coordinates
--   squares_of C           Q, the weighted sum of the squared coordinates
--   squared p              the sum of a point's three squares
--   least_of C             W-as-Q - (S1² + S2² + S3²): W times the least that a fractional shade could cost
--   cost_at C z            what a shade at z costs: the sum of weight times distance
--   mean_of C              the rounded mean on each coordinate
--   leap_of C z            Jancey's step from z on each coordinate
--   group_of C m q         the colours whose member is q; the others weigh nothing
--   drawn n C              the colours with every coordinate n times as large
--   on f C                 one coordinate of the colours
--   Fair C                 at most 16,777,216 pixels in at most 1,048,576 entries, all on the grid
--   Rule, to_mean          where a shade goes, given its number, its group and its place; Lloyd's rule
--   leap_to, kind_of       Jancey's rule, and one of the two
--   holding f rule         the rule that holds the first f shades and moves the others
--   GoodRule rule          it costs the group no more than staying, and keeps to the grid
--   Means f rule           from shade f on it goes to the mean
--   Holds f rule           it moves no shade below f
--   Rests f rule           from shade f on it leaves a shade with a group only on the mean
--   Move, move_of          a rule on one coordinate, and both rules there
--   holding_move f move    a rule on one coordinate with the first f shades held
--   Goes rule move         the rule goes so on each coordinate
--   State, state_of        coordinates and members
--   front_of k a           its first k shades, three coordinates each, and its members
--   joins, grouped         the shade that a colour joins; the members after a grouping
--   group_in               the group of a shade in a round
--   total_of               a round's total, against the shades as they stand
--   plain_distances, short_distances  the distances that a plain and a shortened round work out
--   moved_to, moved_of     where a round moves a shade, and how many it moves
--   step, after            what one round leaves, and what many leave
--   quiet                  a round moves no shade
--   final_of               the members against the shades
--   group_at, group_cost   the group of a shade by the members, and what the shade costs it
--   Fit, Joined            what a round asks of a state, and of its members where it reads them
--   Base, listed           the shades that are given, and those that lie in a list of coordinates
--   on_mean C              the table's mean as the only one
--   next_shade             the shade after some chosen ones: a given one, or the farthest colour
--   starts_from, starts    the starting shades from given ones, and from the table's mean
--   flat p                 the three coordinates of a point
--   remote                 how far a colour is from its nearest shade
--   unlike n c s k         how many of n colours stand on none of k shades
--   over l d               d with l over its front
--   most_rounds            200, the most rounds of a run
--   begin_from, begin      the state in which a run begins, from given shades and from the table's mean
--   rounds_made            the rounds of a run: up to the first quiet one, or the limit
--   Fraction, plus         a fraction of whole numbers, and a sum of two
--   least_sum G qs         the least costs of the groups with the numbers qs, added up
--   From f qs              every number of the list is at least f
--   Bounded C cost         a cost of at least the least, and at most three quarters a pixel above it
--   SumBounded             the same of costs added up
--   SignedPoint            three whole numbers a1, a2, a3, of either sign
--   as_signed p            those of a point
--   off_square n x a       (n·x - a)², where a may lie below 0
--   fraction_cost C n a    the weighted sum of (n·coordinate - a)²: n² times what a shade at a / n costs
pub mod Colouring
pub mod Rules
pub mod Rounding
pub mod Starting
pub mod Running
pub mod Leasts
pub mod Fractions
pub use Colouring.{Colours, Fair}
unfoldable pub use Colouring.{
  colours_of,
  level_colours,
  on,
  pixels_in,
  sums_of,
  squares_of,
  squared,
  least_of,
  cost_at,
  mean_of,
  leap_of,
  group_of,
  drawn,
}
pub use Rules.{GoodRule, Means, Holds, Rests, Goes}
unfoldable pub use Rules.{Rule, to_mean, leap_to, kind_of, holding, Move, move_of, holding_move}
pub use Rounding.{State, Fit}
unfoldable pub use Rounding.{
  state_of,
  front_of,
  joins,
  grouped,
  group_in,
  total_of,
  plain_distances,
  short_distances,
  moved_to,
  step,
  moved_of,
  after,
  quiet,
  final_of,
  group_at,
  group_cost,
  Joined,
}
pub use Starting.{Base}
unfoldable pub use Starting.{remote, unlike, flat, listed, next_shade, starts_from, on_mean, starts, over}
unfoldable pub use Running.{most_rounds, begin_from, begin, rounds_made}
pub use Leasts.{Fraction, Bounded, SumBounded}
unfoldable pub use Leasts.{plus, least_sum, From}
pub use Fractions.{SignedPoint}
unfoldable pub use Fractions.{as_signed, off_square, fraction_cost}
