-- `lift_four`: `lift-four` says what reading all values first does.
use Rattle.std.proofs.Common.{arith}
use Rattle.table_lift.proofs.lift.Lifts.{lift-four}
use Rattle.table_lift.proofs.lift.lift_four.Goals as goal

pub returns : goal.returns
returns c = lift-four c.args.i c.args.o c.args.s.now (omega arith) (omega arith)
