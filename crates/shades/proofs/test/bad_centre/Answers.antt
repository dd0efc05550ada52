-- `bad_centre` counts the coordinates that are off the grid.
use Rattle.std.proofs.Common.{arith}
use Rattle.number.proofs.Tallies.{counting-start}
use Rattle.shades.specs.Tests.{off_grid}
use Rattle.shades.proofs.Countings.{counting-more}
use Rattle.shades.proofs.test.bad_centre.Goals as goal

pub loop-coordinate-init : goal.loop-coordinate-init
loop-coordinate-init c = counting-start _ (off_grid c.args.shades.now)

pub loop-coordinate-preserved : goal.loop-coordinate-preserved
loop-coordinate-preserved c =
    counting-more c.loop-coordinate.invariant (omega arith) c.from-count.result c.from-count.ensures
