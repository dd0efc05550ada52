-- `work_run` meets its contract: the palette is made, the raster mapped to it, and both are handed on, or the mapping's
-- refusal is.
use Rattle.listing_work.proofs.Works.{run-refused, run-left}
use Rattle.listing_work.proofs.picture.work_run.Goals as goal

pub returns-in-Err : goal.returns-in-Err
returns-in-Err c =
    let a = c.args in
    run-refused a.raster.now a.rec a.keys.now a.weights.now a.ran a.members.now a.count c.palette_from_groups.ensures
    c.map_strip.ensures c.in-Err.is

pub returns : goal.returns
returns c =
    let a = c.args in
    run-left a.raster.now a.rec a.keys.now a.weights.now a.ran a.members.now a.count c.palette_from_groups.ensures
    c.map_strip.ensures c.in-Ok.is c.bit.ensures.0
