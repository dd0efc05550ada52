-- `look` lowers place after place.
use Rattle.std.proofs.Common.{refl, ◌∙◌}
use Rattle.number.specs.{fill}
use Rattle.shades.proofs.Picks.{min-lesser}
use Rattle.search_all.specs.Asking.{point_at}
use Rattle.search_all.proofs.all.Leasts.{look-more}
use Rattle.search_all.proofs.all.look.Goals as goal

pub loop-i-init : goal.loop-i-init
unfolding fill
loop-i-init c = refl

pub loop-i-preserved : goal.loop-i-preserved
loop-i-preserved c =
    let l = c.loop-i in
    let a = c.args in
    let far = c.distance_from-d in
    look-more (point_at a.reds.now a.greens.now a.blues.now) a.p a.q l.i a.best.now
    l.invariant c.loop-i-test.true far.result c.min.result far.ensures.0
    (c.min.ensures ∙ min-lesser _ _)
