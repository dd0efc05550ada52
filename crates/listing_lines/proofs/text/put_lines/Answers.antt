-- The pixels of the shades are counted, and the lines put one behind the other.
use Rattle.std.proofs.Common.{◌/◌, get_or, length, replicate, arith}
use Rattle.texts.proofs.Texts.{put-length}
use Rattle.listing_lines.proofs.Rows.{counts-of, lines-put, rows-length, head-length}
use Rattle.listing_lines.proofs.text.put_lines.Goals as goal

pub put_rows-b-requires-clause-room : goal.put_rows-b-requires-clause-room
put_rows-b-requires-clause-room c =
    let k = length c.args.palette.now / 3 in
    let n = counts-of k c.args.index.now (replicate 64 0) c.count_shades.new.counts c.requires.0 c.count_shades.ensures
    in
    let put = c.put_head-a.ensures in
    omega (arith, n.0, put.ends, put-length put, head-length c.args.summary, c.requires.0, c.requires.1)

pub put_last-requires : goal.put_last-requires
put_last-requires c =
    let k = length c.args.palette.now / 3 in
    let n = counts-of k c.args.index.now (replicate 64 0) c.count_shades.new.counts c.requires.0 c.count_shades.ensures
    in
    let head = c.put_head-a.ensures in
    let rows = c.put_rows-b.ensures in
    omega (
      arith,
      head.ends,
      put-length head,
      head-length c.args.summary,
      rows.ends,
      put-length rows,
      rows-length (length c.count_shades.new.counts) c.args.palette.now (λ q. get_or c.count_shades.new.counts q 0),
      n.0,
      c.requires.0,
      c.requires.1,
    )

pub returns : goal.returns
returns c =
    let k = length c.args.palette.now / 3 in
    let n = counts-of k c.args.index.now (replicate 64 0) c.count_shades.new.counts c.requires.0 c.count_shades.ensures
    in
    let rows = c.put_rows-b.ensures in
    lines-put c.args.summary c.args.palette.now c.args.index.now (λ q. get_or c.count_shades.new.counts q 0) n.1
    c.put_head-a.ensures (rw n.0 at rows) c.put_last.ensures
