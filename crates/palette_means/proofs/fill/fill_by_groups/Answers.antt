-- `fill_by_groups` meets its contract: the sums are those of the groups, and give the levels of the palette.
use Rattle.std.proofs.Common.{◌∙◌}
use Rattle.method.specs.{state_of}
use Rattle.group_sums.proofs.Parts.{measured}
use Rattle.palette_means.proofs.Means.{palette-by-sums}
use Rattle.palette_means.proofs.fill.fill_by_groups.Goals as goal

pub fill_levels-requires : goal.fill_levels-requires
fill_levels-requires c =
    let p = c.requires in
    (measured _ _ _ p.0 _ _ c.sum_groups.ensures, p.2, p.4, p.5)

pub returns : goal.returns
returns c =
    let a = c.args in
    let p = c.requires in
    let state = state_of a.coordinates.now a.members.now in
    c.fill_levels.ensures
    ∙ palette-by-sums a.fixed a.used a.keys.now a.weights.now state p.0 _ c.sum_groups.ensures
    a.palette.now p.3 p.4
