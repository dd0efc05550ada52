-- `walk` walks place after place: its invariant is `Walked`.
use Rattle.std.proofs.Common.{◌≡◌, ◌∙◌, arith}
use Rattle.search_near.proofs.Walks.{
  row_number,
  walked_start,
  walked_step,
  walked_all,
  walked-stopped,
  walked-nowhere,
}
use Rattle.search_near.proofs.short.walk.Goals as goal

pub returns-then-limit-rows : goal.returns-then-limit-rows
returns-then-limit-rows c =
    let d = c.distance_to-d.ensures.0 in
    let w = walked-nowhere c.requires (rw d at c.if-limit-rows.true) in
    record { number = w.0; distance = d ∙ w.1.0; distances = w.1.1 }

pub loop-j-init : goal.loop-j-init
loop-j-init c = rw c.distance_to-d.ensures.0 (walked_start c.requires)

pub returns-then-limit-v : goal.returns-then-limit-v
returns-then-limit-v c =
    let w =
    walked-stopped c.requires c.loop-j.invariant c.loop-j-test.true
    (rw c.distance_to-d.ensures.0 at c.if-limit-v.true) in
    record { number = w.0; distance = w.1.0; distances = w.1.1 }

pub nearer-best-requires : goal.nearer-best-requires
nearer-best-requires c =
    let y = c.requires in
    let h = row_number y c.loop-j.j c.loop-j-test.true in
    (omega (arith, y.shades.room), y.shades.low, y.inside, omega arith)

pub loop-j-preserved : goal.loop-j-preserved
loop-j-preserved c =
    rw c.nearer-best.ensures
    (walked_step c.requires c.loop-j.invariant c.loop-j-test.true
    (omega (arith, c.if-limit-v.false, c.distance_to-d.ensures.0)))

pub returns : goal.returns
returns c =
    let w = walked_all c.requires c.loop-j.invariant c.loop-j-test.false in
    let all : c.args.count ≡ c.loop-j.j = omega arith in
    record { number = w.0; distance = w.1.0; distances = all ∙ w.1.1 }
