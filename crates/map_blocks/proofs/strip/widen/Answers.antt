use Rattle.std.proofs.Common.{refl, arith}
use Rattle.number.specs.{fill}
use Rattle.number.proofs.Fills.{fill_more}
use Rattle.map_blocks.proofs.strip.widen.Goals as goal

pub loop-i-init : goal.loop-i-init
unfolding fill
loop-i-init c = refl

pub loop-i-preserved : goal.loop-i-preserved
loop-i-preserved c = rw (c.from.ensures, c.loop-i.invariant) (fill_more _ _ _ (omega arith))
