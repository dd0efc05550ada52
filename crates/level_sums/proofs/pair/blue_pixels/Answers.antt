-- `blue_pixels`: the weight times the blue level, and the weight.
use Rattle.std.proofs.Common.{arith}
use Rattle.colour.specs.{blue_of}
use Rattle.level_sums.proofs.Bounds.{times-fits, times-pair}
use Rattle.level_sums.proofs.pair.blue_pixels.Goals as goal

pub overflow_mul-weight : goal.overflow_mul-weight
overflow_mul-weight c = omega (arith, times-fits c.args.weight _ c.requires c.blue_of.ensures.1)

pub returns : goal.returns
returns c =
    let a = c.args in
    rw (c.pair.ensures, c.blue_of.ensures.0) (omega (arith, times-pair a.weight (blue_of a.key) 1))
