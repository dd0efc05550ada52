-- `search_block` meets its contract: the colours are laid out, and the points there are searched.
use Rattle.std.proofs.Common.{length}
use Rattle.colour.proofs.Distances.{colour-within}
use Rattle.shades.specs.{colour_at, packed_nearest}
use Rattle.search_all.proofs.Layouts.{laid-out, laid-out-ready, laid-out-filled}
use Rattle.search_all.proofs.all.search_block.Goals as goal

pub search_points-requires : goal.search_points-requires
search_points-requires c =
    let p = c.requires in
    let e = c.lay_out.ensures in
    let ready =
    laid-out-ready {c = colour_at c.args.keys.now} (laid-out e.reds e.greens e.blues p.3) (λ i l. colour-within _)
    (length c.args.best.now) p.0 in
    (ready.0, ready.1, p.1, p.2)

pub returns : goal.returns
returns c =
    let a = c.args in
    let e = c.lay_out.ensures in
    let best = a.best.now in
    laid-out-filled {c = colour_at a.keys.now} (laid-out e.reds e.greens e.blues c.requires.3)
    (packed_nearest a.shades.now a.count) (length best) c.requires.0 best c.search_points.ensures
