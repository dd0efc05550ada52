-- `walk_gaps` goes through shade after shade: its invariant is `Sought`.
use Rattle.std.proofs.Common.{sym, ◌∙◌}
use Rattle.search_gaps.proofs.Nears.{gap-tried, sought-start, sought-tried, sought-left, sought-done}
use Rattle.search_gaps.proofs.near.walk_gaps.Goals as goal
use Rattle.search_gaps.proofs.near.walk_gaps.Goals.{then-tries, else-tries}

pub loop-q-init : goal.loop-q-init
loop-q-init c = rw c.distance_to-d.ensures.0 (sought-start c.requires)

pub loop-q-preserved : goal.loop-q-preserved
loop-q-preserved c =
    let y = c.requires in
    let h = c.loop-q-test.true in
    let asked =
    sym (gap-tried y c.loop-q.q h) ∙ sym (rw c.distance_to-d.ensures.0 at c.tries.ensures) in
    elim c.if-tries.branch [
      | then-tries w ↦
          rw (w.best-is, w.others-is, w.nearer-best.ensures)
          (sought-tried y c.loop-q.invariant h (asked ∙ w.if-tries.true))
      | else-tries w ↦ rw (w.best-is, w.others-is) (sought-left y c.loop-q.invariant h (asked ∙ w.if-tries.false))
    ]

pub returns : goal.returns
returns c =
    let d = sought-done c.requires c.loop-q.invariant c.loop-q-test.false in
    record { number = d.0; distance = d.1.0; distances = d.1.1 }
