-- `skip_blocks` passes blocks before which every distance is less.
use Rattle.std.proofs.Common.{arith}
use native.Mathlib.Nat.{le_refl}
use Rattle.starts_far.proofs.Loops.{block-less}
use Rattle.starts_far.proofs.far.skip_blocks.Goals as goal

pub loop-start-preserved : goal.loop-start-preserved
loop-start-preserved c j l =
    block-less _ _ c.loop-start.start c.min-end.result c.block_peak.result c.loop-start.invariant
    (omega arith) (omega arith) c.block_peak.ensures c.if-far-block_peak.false j (omega arith)

pub returns-else-far-block_peak : goal.returns-else-far-block_peak
returns-else-far-block_peak c = (
  le_refl _,
  λ j l.
      block-less _ _ c.loop-start.start c.min-end.result c.block_peak.result c.loop-start.invariant
      (omega arith) (omega arith) c.block_peak.ensures c.if-far-block_peak.false j (omega arith),
)
