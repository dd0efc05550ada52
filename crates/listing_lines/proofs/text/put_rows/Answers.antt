-- Each turn puts the line of one shade more.
use Rattle.std.proofs.Common.{get_or, arith}
use Rattle.texts.proofs.Texts.{put-length}
use Rattle.listing_lines.proofs.Rows.{rows_start, rows_step, rows-done, rows-length}
use Rattle.listing_lines.proofs.text.put_rows.Goals as goal

pub loop-q-init : goal.loop-q-init
loop-q-init c = rows_start c.args.at c.args.palette.now (λ i. get_or c.args.counts.now i 0) c.args.out.now

pub put_shade-a-requires : goal.put_shade-a-requires
put_shade-a-requires c =
    let p = c.loop-q.invariant in
    let n = rows-length c.loop-q.q c.args.palette.now (λ i. get_or c.args.counts.now i 0) in
    (omega arith, omega (arith, n, p.ends, put-length p, c.requires.room))

pub loop-q-preserved : goal.loop-q-preserved
loop-q-preserved c =
    rows_step c.loop-q.q c.args.palette.now (λ i. get_or c.args.counts.now i 0) c.loop-q.invariant c.put_shade-a.ensures

pub returns : goal.returns
returns c =
    rows-done c.args.palette.now (λ i. get_or c.args.counts.now i 0) c.loop-q.auto.q-end c.loop-q-test.false
    c.loop-q.invariant
