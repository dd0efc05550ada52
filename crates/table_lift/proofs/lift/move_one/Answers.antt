-- `move_one`: one value stored in each slice is lifted.
use Rattle.table_lift.proofs.lift.Lifts.{lift-one}
use Rattle.table_lift.proofs.lift.move_one.Goals as goal

pub returns : goal.returns
returns c = record {
  keys_after = lift-one c.args.i c.args.o c.args.keys.now;
  weights_after = lift-one c.args.i c.args.o c.args.weights.now;
}
