-- What is shown of rounds and runs, by subject: the names, under what they say. Each stands as a theorem in full in the
-- file named above it. What is shown of the method alone stands in the Promises of the crate method, the search's in
-- those of the crate shades.

-- ---- the Promises of lloyd_tests: when each test fails
-- each test fails exactly when the fact it asks for holds
pub use Rattle.lloyd_tests.proofs.Promises.{bad-count-exactly, few-colours-exactly, bad-limit-exactly}
pub use Rattle.lloyd_tests.proofs.Promises.{short-members-exactly, short-totals-exactly, bad-member-exactly}
-- a limit of 0 means 100
pub use Rattle.lloyd_tests.proofs.Promises.{limit_is}
-- ---- the Promises of lloyd_rounds: single rounds
-- a round gives each refusal exactly when its row is the first that holds
pub use Rattle.lloyd_rounds.proofs.Promises.{plain-refused-exactly, short-refused-exactly}
-- and none exactly when no row holds
pub use Rattle.lloyd_rounds.proofs.Promises.{plain-accepted-exactly, short-accepted-exactly}
-- a refused one answers its error, and no slice changes
pub use Rattle.lloyd_rounds.proofs.Promises.{plain-refused, short-refused}
-- the contract determines the answer and both lent slices
pub use Rattle.lloyd_rounds.proofs.Promises.{plain-only, short-only}
-- an accepted round is a round of Lloyd's rule, with its distances counted
pub use Rattle.lloyd_rounds.proofs.Promises.{plain-accepted, short-accepted}
-- each used member becomes the nearest shade
pub use Rattle.lloyd_rounds.proofs.Promises.{plain-joined, short-joined}
-- plain and shortened rounds leave the same
pub use Rattle.lloyd_rounds.proofs.Promises.{short-leaves-plain}
-- a shortened round works out at most as many distances as a plain one
pub use Rattle.lloyd_rounds.proofs.Promises.{short-distances-at-most}
-- members past the used entries stay
pub use Rattle.lloyd_rounds.proofs.Promises.{plain-members-kept, short-members-kept}
-- ---- Promises/Refusing.antt: a run's refusals
pub mod Refusing
-- a run gives each refusal exactly when its row is the first that holds, and none exactly when no row holds
pub use Refusing.{run-refused-exactly, run-accepted-exactly}
-- a refused run answers its error, and no slice changes
pub use Refusing.{run-refused}
-- ---- Promises/Runs.antt: runs
pub mod Runs
-- an accepted run makes rounds of Lloyd's rule from the starting shades
pub use Runs.{run-accepted}
-- it begins with the rounded mean of the table, and then each time with the farthest colour
pub use Runs.{first-is-mean, start-is-farthest}
-- that mean is read from the record's channel sums
pub use Runs.{first-by-sums}
-- it begins with shades in different places
pub use Runs.{starts-differ}
-- it makes rounds up to the limit or the first that moves no shade
pub use Runs.{rounds-within, settled_is, moved_before}
-- the recorded totals are the method's, and never rise
pub use Runs.{total-recorded, totals-never-rise, final-at-most-last}
-- its distances are at most one for each shade, used entry and round
pub use Runs.{distances-at-most}
-- the final total: no whole shades do better, and fractional ones hardly, group by group and in sum
pub use Runs.{final-is-least, total-is-groups, group-bounded, groups-bounded}
-- all groups in one line, against the record's pixels, which are those of the groups
pub use Runs.{total-bounded, groups-have-all}
-- what fractional shades can do is no less than the least, and attains it
pub use Runs.{group-fraction-at-least, group-fraction-exactly}
-- the same for whole numbers of either sign
pub use Runs.{group-signed-fraction-at-least, group-signed-fraction-exactly}
-- the shades that are answered
pub use Runs.{stands-on-mean, shades-low, shades-room, shades-past}
-- what the slices have, and what stays in them
pub use Runs.{member_below, members_kept, totals-kept}
-- how large the final total and the distances can be
pub use Runs.{total-most, distances-most}
-- a settled run: the final total is the last recorded, and every colour is with its nearest shade
pub use Runs.{settled-final, settled-joined}
-- ---- Promises/Jancey.antt: Jancey's run
pub mod Jancey
-- it is refused as a run is, on every input
pub use Jancey.{jancey-refused-exactly, jancey-accepted-exactly, jancey-refused, jancey-refused-as-run}
-- its contract determines the answer and both lent slices
pub use Jancey.{jancey-only}
-- limit 0 is limit 100, a settled one is the same with any limit that has its rounds, and no more is read than used
pub use Jancey.{jancey-of-usual, jancey-settled-at-any-limit, jancey-of-used, jancey-by-truth}
-- an accepted one makes rounds of Jancey's rule from the starting shades of a run
pub use Jancey.{jancey-accepted, jancey-first-is-mean, jancey-first-by-sums}
pub use Jancey.{jancey-start-is-farthest, jancey-starts-differ}
-- the step, coordinate by coordinate, in whole numbers; a shade with no group stays
pub use Jancey.{jancey-steps, jancey-stays}
-- its rounds and totals: these never rise, and the final one is not above the last
pub use Jancey.{jancey-rounds-within, jancey-settled-is, jancey-moved-before, jancey-total-recorded}
pub use Jancey.{jancey-totals-never-rise, jancey-final-at-most-last, jancey-total-is-groups}
pub use Jancey.{jancey-distances-at-most}
-- the shades, and what the slices have
pub use Jancey.{jancey-shades-low, jancey-shades-room, jancey-shades-past}
pub use Jancey.{jancey-member-below, jancey-members-kept, jancey-totals-kept}
-- a settled one: each shade with a group on its rounded mean, every colour with its nearest shade
pub use Jancey.{jancey-settled-on-mean, jancey-settled-final, jancey-settled-joined}
-- ---- Promises/Calls.antt: the calls beside one another
pub mod Calls
-- the contract of a run determines the answer and both lent slices
pub use Calls.{run_only}
-- a run with limit 0 is the run with limit 100, and a settled one is the same with any limit that has its rounds
pub use Calls.{run-of-usual, settled-at-any-limit}
-- a run depends on the used entries alone, and of the record on how many they are and on whether it is true
pub use Calls.{run-of-used, run-by-truth}
-- its rounds are calls of short_round, one after the other, each accepted, with its totals and distances
pub use Calls.{calls-are-rounds, call-accepted, call-total, call-moved, calls-distances, calls-leave}
-- a single round on what a settled run leaves changes nothing
pub use Calls.{settled-short, settled_plain}
