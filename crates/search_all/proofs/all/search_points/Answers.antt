-- `search_points` looks at shade after shade: its invariant is `Looked`, from the points laid out.
use Rattle.std.proofs.Common.{◌∙◌}
use Rattle.shades.proofs.Repeats.{repeated-all}
use Rattle.search_all.proofs.all.Leasts.{looked-start, looked-step, looked-done}
use Rattle.search_all.proofs.all.search_points.Goals as goal

pub loop-q-init : goal.loop-q-init
loop-q-init c =
    let d = c.args.best.now in
    looked-start d (c.fill.ensures.after (λ y e. e) ∙ repeated-all _ d)

pub loop-q-preserved : goal.loop-q-preserved
loop-q-preserved c =
    looked-step c.loop-q.invariant c.loop-q-test.true (rw c.shade_at.ensures at c.look.ensures)

pub returns : goal.returns
returns c =
    let p = c.requires in
    let d = c.args.best.now in
    looked-done c.loop-q.invariant c.loop-q-test.false p.2 p.3 d
    (c.fill.ensures.after (λ y e. e) ∙ repeated-all _ d) p.1
