-- `skip_blocks` passes blocks before which every distance is less.
use Rattle.std.proofs.Common.{◌-◌}
use Rattle.starts_far.proofs.Loops.{Less}
use Rattle.starts_far.proofs.far.skip_blocks.Given as goal

abbrev pub invariant-loop-start : goal.invariant-loop-start
invariant-loop-start l = Less l.d l.far l.start

abbrev pub decreases-loop-start : goal.decreases-loop-start
decreases-loop-start l = l.used - l.start
