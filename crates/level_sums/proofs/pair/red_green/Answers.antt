-- `red_green`: the weight times both levels, and each product fits in 32 bits.
use Rattle.std.proofs.Common.{arith}
use Rattle.colour.specs.{red_of, green_of}
use Rattle.level_sums.proofs.Bounds.{times-fits, times-pair}
use Rattle.level_sums.proofs.pair.red_green.Goals as goal

pub overflow_mul-weight : goal.overflow_mul-weight
overflow_mul-weight c = omega (arith, times-fits c.args.weight _ c.requires c.red_of.ensures.1)

pub overflow_mul-weight-2 : goal.overflow_mul-weight-2
overflow_mul-weight-2 c = omega (arith, times-fits c.args.weight _ c.requires c.green_of.ensures.1)

pub returns : goal.returns
returns c =
    let a = c.args in
    rw (c.pair.ensures, c.red_of.ensures.0, c.green_of.ensures.0)
    (times-pair a.weight (red_of a.key) (green_of a.key))
