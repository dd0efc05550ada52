-- `faults`: the keys passed that the next one is not above are counted.
use Rattle.number.proofs.Tallies.{Counting}
use Rattle.table_test.specs.Testing.{falls_at}
use Rattle.table_test.proofs.test.faults.Given as goal

abbrev pub invariant-loop-i : goal.invariant-loop-i
invariant-loop-i l = Counting l.last (falls_at l.keys) l.count l.i
