-- Each turn fills one place more.
use Rattle.std.proofs.Common.{◌≡◌, length, refl, arith}
use Rattle.number.specs.{fill}
use Rattle.number.proofs.Fills.{fill_more}
use Rattle.listing_lines.specs.Texts.{mapped_to}
use Rattle.listing_lines.proofs.count.count_shades.Goals as goal

pub loop-q-init : goal.loop-q-init
unfolding fill
loop-q-init c = refl

pub loop-q-preserved : goal.loop-q-preserved
loop-q-preserved c =
    rw (c.loop-q.invariant, c.count_of.ensures)
    (fill_more c.loop-q.q (mapped_to c.args.index.now) c.args.counts.now (omega arith))

pub returns : goal.returns
returns c =
    let e : c.loop-q.q ≡ length c.args.counts.now = omega arith in
    rw e at c.loop-q.invariant
