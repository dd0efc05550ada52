-- `distance_from` answers the sum of the three squares, each in its bound.
use Rattle.std.proofs.Common.{arith}
use Rattle.colour.specs.Points.{distance}
use Rattle.colour.proofs.grid.distance_from.Goals as goal

pub returns : goal.returns
unfolding distance
returns c = (cc, omega arith)
