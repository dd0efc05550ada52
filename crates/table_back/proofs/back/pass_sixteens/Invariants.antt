-- `pass_sixteens`: the keys passed are whole sixteens, and each of them was one that is passed.
use Rattle.table_back.proofs.back.Sixteens.{Passing}
use Rattle.table_back.proofs.back.pass_sixteens.Given as goal

abbrev pub invariant-loop-left : goal.invariant-loop-left
invariant-loop-left l = Passing l.keys l.i l.key l.left

abbrev pub decreases-loop-left : goal.decreases-loop-left
decreases-loop-left l = l.left
