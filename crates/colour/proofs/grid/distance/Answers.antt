-- `distance` answers the sum of the three squares, each in its bound.
use Rattle.std.proofs.Common.{arith}
use Rattle.colour.specs.Points.{distance}
use Rattle.colour.proofs.grid.distance.Goals as goal

pub returns : goal.returns
unfolding distance
returns c = (omega arith, omega arith)
