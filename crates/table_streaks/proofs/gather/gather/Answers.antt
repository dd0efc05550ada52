-- `gather` keeps `Gathering`, and what it lays holds the pixels passed.
use Rattle.std.proofs.Common.{◌≡◌, ◌+◌, ◌<◌, length, sym, ◌∙◌, arith}
use Rattle.std.proofs.Math.ListN.{length-set}
use Rattle.table_streaks.proofs.gather.Gathers.{does-join, gather-start, gather-join, gather-begin, gather-done}
use Rattle.table_streaks.proofs.gather.gather.Goals as goal
use Rattle.table_streaks.proofs.gather.gather.Goals.{then-joins, else-joins+else-len-list}

pub loop-done-init : goal.loop-done-init
loop-done-init c = gather-start c.args.strip.now c.args.from c.args.most c.args.list.now c.key_at-streak.result
    c.requires.0 c.requires.1 c.requires.2 c.key_at-streak.ensures.0 c.key_at-streak.ensures.1

pub returns-then-len-list-clause-by_index : goal.returns-then-len-list-clause-by_index
returns-then-len-list-clause-by_index c = gather-done c.loop-done.invariant

pub loop-done-preserved : goal.loop-done-preserved
loop-done-preserved c =
    let i = c.loop-done.invariant in
    let l = c.loop-done-test.true in
    let key = c.key_at-key.result in
    elim c.if-joins.branch [
      | then-joins w ↦ rw (w.list-is, w.streak-is, w.len-is)
          (gather-join i l key c.key_at-key.ensures.0 (does-join _ _ (sym c.joins.ensures ∙ w.if-joins.true)))
      | else-joins+else-len-list w ↦
          let n : c.loop-done.len + 1 < length c.loop-done.list
          = omega (arith, i.room, simp length-set at w.if-len-list.false) in
          rw (w.list-is, w.streak-is, w.len-is)
          (gather-begin i l key c.key_at-key.ensures.0 n c.key_at-key.ensures.1)
    ]

pub returns-clause-by_index : goal.returns-clause-by_index
returns-clause-by_index c =
    let e : c.args.most ≡ c.loop-done.done = omega arith in
    rw e (gather-done c.loop-done.invariant)
