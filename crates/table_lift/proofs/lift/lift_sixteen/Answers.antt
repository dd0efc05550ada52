-- `lift_sixteen`: four values, four times, are sixteen.
use Rattle.table_lift.proofs.lift.Lifts.{lift-sixteen}
use Rattle.table_lift.proofs.lift.lift_sixteen.Goals as goal

pub returns : goal.returns
returns c = lift-sixteen c.args.i c.args.o c.args.s.now _ _ _ _ c.lift_four.ensures c.lift_four-2.ensures
    c.lift_four-3.ensures c.lift_four-4.ensures
