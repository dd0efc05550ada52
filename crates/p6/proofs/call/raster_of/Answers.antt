-- The raster is the input from its first place on, and nothing of a refused picture.
use Rattle.std.proofs.Common.{sym, ◌∙◌}
use Rattle.std.proofs.lemmas.List.{take_rest}
use Rattle.p6.proofs.Meaning.{accepted-start, raster-is-stretch, raster-nothing}
use Rattle.p6.proofs.call.raster_of.Goals as goal

pub slice_bounds-result-count : goal.slice_bounds-result-count
slice_bounds-result-count c = accepted-start c.args.input.now (sym c.in-Ok.ensures)

pub slice_bounds-result-start : goal.slice_bounds-result-start
slice_bounds-result-start c = accepted-start c.args.input.now (sym c.in-Ok.ensures)

pub returns-in-Ok : goal.returns-in-Ok
returns-in-Ok c =
    take_rest c.args.input.now c.in-Ok.picture.start ∙ sym (raster-is-stretch c.args.input.now (sym c.in-Ok.ensures))

pub returns-in-Err : goal.returns-in-Err
returns-in-Err c = sym (raster-nothing c.args.input.now (sym c.in-Err.ensures))
