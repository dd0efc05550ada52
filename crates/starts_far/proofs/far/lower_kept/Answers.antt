-- `lower_kept` lowers distance after distance: its invariant is `Lowering`.
use Rattle.std.proofs.Common.{◌∙◌, ap, arith}
use Rattle.colour.specs.{distance}
use Rattle.shades.proofs.Picks.{min-lesser, max-greater}
use Rattle.starts_far.proofs.Loops.{lowering-start, lowering-step}
use Rattle.starts_far.proofs.far.lower_kept.Goals as goal

pub loop-i-init : goal.loop-i-init
loop-i-init c = let a = c.args in lowering-start a.keys.now a.used a.p a.d.now

pub loop-i-preserved : goal.loop-i-preserved
loop-i-preserved c =
    lowering-step c.loop-i.invariant (omega arith) (omega arith) c.distance-x.result c.min-y.result c.max-far.result
    (c.distance-x.ensures.0 ∙ ap (λ q. distance q c.args.p) c.colour_of.ensures.0)
    (c.min-y.ensures ∙ min-lesser _ _) (c.max-far.ensures ∙ max-greater _ _)
