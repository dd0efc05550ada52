-- `two_sums`: both numbers are those of the sums over the entries passed.
use Rattle.table_sums.proofs.sums.Turn.{Summing}
use Rattle.table_sums.proofs.sums.two_sums.Given as goal

abbrev pub invariant-loop-i : goal.invariant-loop-i
invariant-loop-i l = Summing l.keys l.weights l.used l.first l.second l.i
