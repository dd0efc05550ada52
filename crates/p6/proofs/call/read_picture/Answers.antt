-- Each way out of `read_picture` is a law of `Ways`, with what the tests before it said.
use Rattle.std.proofs.Common.{Err, sym, ap, ◌∙◌}
use borrow.Author.Tests.{ne_eqb}
use Rattle.p6_header.proofs.Headers.{start-inside}
use Rattle.p6.specs.Refusals.{the_depth}
use Rattle.p6.proofs.Meaning.{bad-depth-exactly}
use Rattle.p6.proofs.Ways.{
  picture-bad-header,
  picture-bad-size,
  picture-bad-depth,
  picture-bad-raster,
  picture-made,
}
use Rattle.p6.proofs.call.read_picture.Goals as goal

pub returns-in-Err : goal.returns-in-Err
returns-in-Err c = sym (picture-bad-header c.args.input.now c.in-Err.at (sym c.in-Err.ensures))

pub returns-then-bad_size : goal.returns-then-bad_size
returns-then-bad_size c =
    ap Err c.without_offset.ensures
    ∙ sym (picture-bad-size c.args.input.now _ _ _ _ (sym c.in-Ok.ensures) (sym c.if-bad_size.ensures))

pub returns-then-depth-ne-DEPTH : goal.returns-then-depth-ne-DEPTH
returns-then-depth-ne-DEPTH c =
    ap Err c.without_offset-then-depth-ne-DEPTH.ensures
    ∙ sym (picture-bad-depth c.args.input.now _ _ _ _ (sym c.in-Ok.ensures) (sym c.if-bad_size.ensures)
    (rw (ne_eqb c.in-Ok.header.depth the_depth c.if-depth-ne-DEPTH.true)))

pub overflow_sub-input : goal.overflow_sub-input
overflow_sub-input c = start-inside c.args.input.now _ _ _ _ (sym c.in-Ok.ensures)

pub returns-then-bad_raster : goal.returns-then-bad_raster
returns-then-bad_raster c =
    ap Err c.without_offset-then-bad_raster.ensures
    ∙ sym (picture-bad-raster c.args.input.now _ _ _ _ (sym c.in-Ok.ensures) (sym c.if-bad_size.ensures)
    ((bad-depth-exactly c.in-Ok.header.depth).1 c.if-depth-ne-DEPTH.false) (sym c.if-bad_raster.ensures))

pub returns : goal.returns
returns c =
    sym (picture-made c.args.input.now _ _ _ _ (sym c.in-Ok.ensures) (sym c.if-bad_size.ensures)
    ((bad-depth-exactly c.in-Ok.header.depth).1 c.if-depth-ne-DEPTH.false) (sym c.if-bad_raster.ensures))
