-- `work_picture` meets its contract: the calls give the picture's table and run, and the rest is made of these.
use Rattle.std.proofs.lemmas.Result.{err_from_is_err_and}
use Rattle.listing_work.proofs.Works.{ready, ready-count, ready-room, ready_refused, ready-left}
use Rattle.listing_work.proofs.picture.work_picture.Goals as goal

pub returns-in_err-ran : goal.returns-in_err-ran
returns-in_err-ran c =
    let a = c.args in
    let gave = err_from_is_err_and c.from_residual.result c.from_residual.ensures.1 in
    let w = ready a.picture.now a.count c.raster_of-raster.ensures c.add_strip-added.ensures c.in_err-ran.ensures in
    rw (gave.1, gave.2) (ready_refused w)

pub work_run-requires : goal.work_run-requires
work_run-requires c =
    let a = c.args in
    let w = ready a.picture.now a.count c.raster_of-raster.ensures c.add_strip-added.ensures c.in_ok-ran.ensures in
    (ready-count w, ready-room w)

pub returns : goal.returns
returns c =
    let a = c.args in
    let w = ready a.picture.now a.count c.raster_of-raster.ensures c.add_strip-added.ensures c.in_ok-ran.ensures in
    ready-left w c.work_run.ensures c.raster_of-raster.ensures
