-- `block_peak` takes in distance after distance.
use Rattle.std.proofs.Common.{ℕ, ◌≤◌, ◌<◌, get_or}
use Rattle.starts_far.proofs.far.block_peak.Given as goal

abbrev pub invariant-loop-kept : goal.invariant-loop-kept
invariant-loop-kept l = (j : ℕ) → j < l.kept-index → get_or l.d j 0 ≤ l.far
