-- `two_sums` adds an entry at each turn, and neither number is too large.
use Rattle.std.proofs.Common.{refl, arith}
use Rattle.level_sums.proofs.Bounds.{weight-at-most}
use Rattle.table_sums.proofs.sums.Turn.{summing_start, summing-step, summing-fits, summing-done}
use Rattle.table_sums.proofs.sums.two_sums.Goals as goal

pub loop-i-init : goal.loop-i-init
loop-i-init c = summing_start c.args.keys.now c.args.weights.now c.args.used

pub times-first-requires : goal.times-first-requires
times-first-requires c = weight-at-most _ _ _ c.requires.0 _ c.loop-i-test.true

pub overflow_add-first : goal.overflow_add-first
overflow_add-first c = omega (
  arith,
  (summing-fits c.requires.0 c.loop-i.invariant c.loop-i-test.true (c.requires.1 _ c.loop-i-test.true) _ _
      c.times-first.ensures refl).0,
)

pub mix_of-requires : goal.mix_of-requires
mix_of-requires c = c.requires.1 _ c.loop-i-test.true

pub times-second-requires : goal.times-second-requires
times-second-requires c = weight-at-most _ _ _ c.requires.0 _ c.loop-i-test.true

pub overflow_add-second : goal.overflow_add-second
overflow_add-second c = omega (
  arith,
  (summing-fits c.requires.0 c.loop-i.invariant c.loop-i-test.true (c.requires.1 _ c.loop-i-test.true) _ _ refl
      (rw c.mix_of.ensures at c.times-second.ensures)).1,
)

pub loop-i-preserved : goal.loop-i-preserved
loop-i-preserved c = summing-step c.requires.0 c.loop-i.invariant c.loop-i-test.true (c.requires.1 _ c.loop-i-test.true)
    _ _ c.times-first.ensures (rw c.mix_of.ensures at c.times-second.ensures)

pub returns : goal.returns
returns c = summing-done c.loop-i.invariant c.loop-i-test.false
