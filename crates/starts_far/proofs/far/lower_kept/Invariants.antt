-- `lower_kept` lowers distance after distance: its invariant is `Lowering`.
use Rattle.starts_far.proofs.Loops.{Lowering}
use Rattle.starts_far.proofs.far.lower_kept.Given as goal

abbrev pub invariant-loop-i : goal.invariant-loop-i
invariant-loop-i l = Lowering l.keys l.used l.fn.p l.initial.d l.d l.far l.i
