-- `bad_centre` counts the coordinates that are off the grid.
use Rattle.std.proofs.Common.{length}
use Rattle.number.proofs.Tallies.{Counting}
use Rattle.shades.specs.Tests.{off_grid}
use Rattle.shades.proofs.test.bad_centre.Given as goal

abbrev pub invariant-loop-coordinate : goal.invariant-loop-coordinate
invariant-loop-coordinate l = Counting (length l.shades) (off_grid l.shades) l.count l.coordinate-index
