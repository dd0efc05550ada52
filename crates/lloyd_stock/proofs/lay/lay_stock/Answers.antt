-- `lay_stock` fills place after place.
use Rattle.std.proofs.Common.{refl, get_or, arith}
use Rattle.number.specs.{fill}
use Rattle.number.proofs.Fills.{fill_more}
use Rattle.colour.specs.{sixteenth}
use Rattle.lloyd_stock.proofs.lay.lay_stock.Goals as goal

pub loop-i-init : goal.loop-i-init
unfolding fill
loop-i-init c = refl

pub loop-i-preserved : goal.loop-i-preserved
loop-i-preserved c =
    let l = c.loop-i in
    let level = c.from.ensures in
    rw (level, l.invariant) (fill_more l.i (λ j. sixteenth (get_or c.args.fixed.now j 0)) _ (omega arith))
