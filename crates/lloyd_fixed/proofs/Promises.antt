-- What is shown of a run with fixed shades, by subject: the names, under what they say. Each stands as a theorem in
-- full in the file named above it. What the tests of the fixed list say stands in the Promises of lloyd_stock, what is
-- shown of a rule that holds shades in those of method.

-- ---- Promises/Refusing.antt: refusals, and the contract
pub mod Refusing
-- it gives each refusal exactly when its row is the first that holds, and none exactly when no row holds
pub use Refusing.{fixed-refused-exactly, fixed-accepted-exactly}
-- a refused one answers its error, and no slice changes; an empty list is refused
pub use Refusing.{fixed-refused, fixed-none-refused}
-- its contract determines the answer and both lent slices
pub use Refusing.{fixed-only}
-- limit 0 is limit 100, a settled one is the same with any limit that has its rounds, and no more is read than used
pub use Refusing.{fixed-of-usual, fixed-settled-at-any-limit, fixed-of-used, fixed-by-truth}
-- ---- Promises/Runs.antt: every accepted one
pub mod Runs
-- it makes rounds of Lloyd's rule with the fixed shades held
pub use Runs.{fixed-accepted}
-- it begins with the fixed shades, and then each time with the farthest colour, where no shade before it stands
pub use Runs.{fixed-begins, free-is-farthest, free-starts-differ}
-- the fixed shades stand as handed in, and no round moves one or counts it as moved; the others go to their means
pub use Runs.{fixed-stand, fixed-never-move, fixed-never-counted, free-moves}
-- its rounds and totals: these never rise, and the final one is not above the last
pub use Runs.{fixed-rounds-within, fixed-settled-is, fixed-moved-before, fixed-total-recorded}
pub use Runs.{fixed-totals-never-rise, fixed-final-at-most-last, fixed-total-is-groups}
pub use Runs.{fixed-distances-at-most}
-- its last grouping: no other free shades do better, and fractional ones hardly, group by group and in sum
pub use Runs.{free-final-is-least, free-group-bounded, free-groups-bounded, free-stands-on-mean}
-- the shades, and what the slices have
pub use Runs.{fixed-shades-low, fixed-shades-room, fixed-shades-past}
pub use Runs.{fixed-member-below, fixed-members-kept, fixed-totals-kept}
-- a settled one: the final total is the last recorded, and every colour is with its nearest shade
pub use Runs.{fixed-settled-final, fixed-settled-joined}
