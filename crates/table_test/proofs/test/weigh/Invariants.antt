-- `weigh`: the weights passed are counted and added up.
use Rattle.table_test.proofs.test.Turn.{Weighing}
use Rattle.table_test.proofs.test.weigh.Given as goal

abbrev pub invariant-loop-weight : goal.invariant-loop-weight
invariant-loop-weight l = Weighing l.weights l.used l.zeros l.sum l.weight-index
