-- `streak_sums` adds a streak at each turn, and each sum is in 32 bits.
use Rattle.std.proofs.Common.{arith}
use Rattle.table_channels.proofs.channels.Adding.{adding-fits, adding-step}
use Rattle.table_channels.proofs.channels.streak_sums.Goals as goal

pub overflow_add-red : goal.overflow_add-red
overflow_add-red c = omega (
  arith,
  (adding-fits c.loop-streak.invariant c.loop-streak-test.true c.requires _ _
      c.streak_pixels-pixels.ensures.1 c.red_of.ensures.1).0,
)

pub overflow_add-green : goal.overflow_add-green
overflow_add-green c = omega (
  arith,
  (adding-fits c.loop-streak.invariant c.loop-streak-test.true c.requires _ _
      c.streak_pixels-pixels.ensures.1 c.green_of.ensures.1).1,
)

pub overflow_add-blue : goal.overflow_add-blue
overflow_add-blue c = omega (
  arith,
  (adding-fits c.loop-streak.invariant c.loop-streak-test.true c.requires _ _
      c.streak_pixels-pixels.ensures.1 c.blue_of.ensures.1).2,
)

pub loop-streak-preserved : goal.loop-streak-preserved
loop-streak-preserved c =
    let key = c.streak_key-key.ensures.0 in
    adding-step c.loop-streak.invariant c.loop-streak-test.true _ _ _ _ c.streak_pixels-pixels.ensures.0
    (rw key at c.red_of.ensures.0) (rw key at c.green_of.ensures.0) (rw key at c.blue_of.ensures.0)
