-- A stretch lent on and come back filled is that stretch of the picture filled.
use Rattle.map_blocks.specs.{entry_for}
use Rattle.mapping.proofs.Ways.{stretch-mapped}
use Rattle.mapping.proofs.call.map_stretch.Goals as goal

pub returns-clause-index : goal.returns-clause-index
returns-clause-index c =
    let a = c.args in
    stretch-mapped a.first a.pixels (entry_for a.palette.now a.strip.now) a.index.now _ c.requires.1
    c.map_pixels.ensures.index
