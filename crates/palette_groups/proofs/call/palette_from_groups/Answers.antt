-- `palette_from_groups` meets its contract: with no shade fixed, the outcome is that of the palette of groups.
use Rattle.method.specs.{state_of}
use Rattle.palette_groups.proofs.MeaningFixed.{palette-none-fixed}
use Rattle.palette_groups.proofs.call.palette_from_groups.Goals as goal

pub returns : goal.returns
returns c =
    let a = c.args in
    rw (palette-none-fixed a.rec a.keys.now a.weights.now (state_of a.coordinates.now a.members.now) a.palette.now) at
    c.palette_from_groups_fixed.ensures
