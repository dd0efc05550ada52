-- `faults` counts at each turn the key that the next one is not above.
use Rattle.std.proofs.Common.{arith}
use Rattle.number.proofs.Tallies.{counting-start, counting-step, counting-done}
use Rattle.table_test.specs.Testing.{falls_at}
use Rattle.table_test.proofs.test.faults.Goals as goal

pub loop-i-init : goal.loop-i-init
loop-i-init c = counting-start c.args.last (falls_at c.args.keys.now)

pub loop-i-preserved : goal.loop-i-preserved
loop-i-preserved c = counting-step c.loop-i.invariant (omega arith) c.bit-count.result c.bit-count.ensures.0

pub returns : goal.returns
returns c = counting-done c.loop-i.invariant c.loop-i-test.false
