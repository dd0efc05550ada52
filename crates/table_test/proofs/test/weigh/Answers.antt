-- `weigh` counts and adds a weight at each turn.
use Rattle.std.proofs.Common.{◌≡◌, ◌<◌, get_or, take, arith}
use Rattle.std.proofs.Math.Seq.{get_or-take, length-take-le}
use Rattle.table_test.proofs.test.Turn.{weighing-start, weighing-step}
use Rattle.table_test.proofs.test.weigh.Goals as goal

pub loop-weight-init : goal.loop-weight-init
loop-weight-init c = weighing-start c.args.weights.now c.args.used

pub loop-weight-preserved : goal.loop-weight-preserved
loop-weight-preserved c =
    let i = c.loop-weight.weight-index in
    let l : i < c.args.used = omega (arith, length-take-le c.args.used c.args.weights.now c.requires.0) in
    let e : get_or (take c.args.used c.args.weights.now) i 0 ≡ get_or c.args.weights.now i 0
    = get_or-take c.args.used c.args.weights.now i 0 l in
    weighing-step c.loop-weight.invariant l c.bit-zeros.result c.from-sum.result (rw e at c.bit-zeros.ensures.0)
    (rw e at c.from-sum.ensures) (omega (arith, c.type_inv.weights i, rw e at c.from-sum.ensures))
