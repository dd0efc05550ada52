-- `fill_gaps` fills row after row: its invariant is `Filling`.
use Rattle.std.proofs.Common.{refl}
use Rattle.search_gaps.proofs.Nears.{gapping-step}
use Rattle.search_gaps.proofs.near.fill_gaps.Goals as goal

pub loop-p-preserved : goal.loop-p-preserved
loop-p-preserved c =
    gapping-step c.args.shades.now c.loop-p.invariant c.loop-p-test.true c.requires.0.few
    c.requires.1 refl (rw c.shade_at.ensures at c.gap_row.ensures)
