-- `search_slots` meets its contract: the colours are laid out, and searched.
use Rattle.map_find.proofs.Finds.{keys-laid, keys-ready, keys-searched}
use Rattle.map_find.proofs.find.search_slots.Goals as goal

pub search_points-requires : goal.search_points-requires
search_points-requires c =
    let p = c.requires in
    let e = c.lay_out.ensures in
    let laid = keys-laid c.args.keys.now e.reds e.greens e.blues p.3 in
    let ready = keys-ready c.args.keys.now laid c.args.best.now p.2 in
    (ready.0, ready.1, p.0, p.1)

pub returns : goal.returns
returns c =
    let p = c.requires in
    let e = c.lay_out.ensures in
    let laid = keys-laid c.args.keys.now e.reds e.greens e.blues p.3 in
    keys-searched c.args.shades.now c.args.count c.args.keys.now laid c.args.best.now p.2 c.search_points.ensures
