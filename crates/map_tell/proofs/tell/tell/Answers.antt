use Rattle.std.proofs.Common.{refl, arith}
use Rattle.number.specs.{fill}
use Rattle.map_slots.specs.{levels_of}
use Rattle.map_errors.specs.{found_number}
use Rattle.map_tell.proofs.Tells.{telling-step}
use Rattle.map_tell.proofs.tell.tell.Goals as goal

pub loop-i-init : goal.loop-i-init
unfolding fill
loop-i-init c = refl

pub loop-i-preserved : goal.loop-i-preserved
loop-i-preserved c =
    let a = c.args in
    let slot = c.from-slot.ensures in
    rw slot
    (telling-step (levels_of a.keys.now a.link.now) a.shades.now (found_number a.link.now a.best.now) c.loop-i.i
    a.told.now c.loop-i.invariant (omega arith) (rw slot at c.red_of.ensures.0) (rw slot at c.green_of.ensures.0)
    (rw slot at c.blue_of.ensures.0) (rw slot at c.square.ensures.0) (rw slot at c.square-in-loop-i.ensures.0)
    (rw slot at c.square-in-loop-i-2.ensures.0))
