use Rattle.std.proofs.Common.{arith}
use Rattle.map_join.proofs.Joins.{takes-front, takes-most, joining-step}
use Rattle.map_join.proofs.keys.join.Goals as goal

pub loop-i-preserved : goal.loop-i-preserved
loop-i-preserved c =
    let few = c.loop-i.invariant.joined.few in
    let takes = takes-front c.loop-i.keys c.loop-i.taken (omega (arith, few)) c.slot_for-slot.ensures in
    let most = takes-most takes in
    joining-step c.loop-i.invariant takes (omega (arith, few)) (omega arith) (omega (arith, c.max-taken.ensures))
    (omega (arith, c.max-taken.ensures)) (omega (arith, c.max-taken.ensures))
