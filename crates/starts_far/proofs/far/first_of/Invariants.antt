-- `first_of` passes places at which the distance is less than the greatest.
use Rattle.starts_far.proofs.Loops.{Less}
use Rattle.starts_far.proofs.far.first_of.Given as goal

abbrev pub invariant-loop-i : goal.invariant-loop-i
invariant-loop-i l = Less l.d l.far l.i
