-- White bytes and comments are passed, and those that are left end where all of them end.
use Rattle.std.proofs.Common.{◌-◌, length}
use Rattle.p6_gap.proofs.gap.Turns.{Left}
use Rattle.p6_gap.proofs.gap.gap_end.Given as goal

abbrev pub invariant-loop-i : goal.invariant-loop-i
invariant-loop-i l = Left l.input l.at l.i

abbrev pub decreases-loop-i : goal.decreases-loop-i
decreases-loop-i l = length l.input - l.i
