use Rattle.std.proofs.Common.{refl, arith}
use Rattle.number.specs.{fill}
use Rattle.number.proofs.Fills.{fill_more}
use Rattle.palette_means.proofs.fill.fill_levels.Goals as goal

pub loop-i-init : goal.loop-i-init
unfolding fill
loop-i-init c = refl

pub loop-i-preserved : goal.loop-i-preserved
loop-i-preserved c = rw c.loop-i.invariant (rw c.group_level.ensures (fill_more _ _ _ (omega arith)))
