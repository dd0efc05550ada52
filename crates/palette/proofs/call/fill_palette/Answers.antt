-- What `fill` says of nothing filled, and of one place more.
use Rattle.std.proofs.Common.{get_or, refl, arith}
use Rattle.number.specs.{fill}
use Rattle.number.proofs.Fills.{fill_more}
use Rattle.palette.specs.Palettes.{level_of}
use Rattle.palette.proofs.call.fill_palette.Goals as goal

pub loop-i-init : goal.loop-i-init
unfolding fill
loop-i-init c = refl

pub loop-i-preserved : goal.loop-i-preserved
loop-i-preserved c =
    rw (c.loop-i.invariant, c.level_of.ensures)
    (fill_more c.loop-i.i (λ j. level_of (get_or c.args.coordinates.now j 0)) c.args.palette.now
    (omega (arith, c.requires.1)))
