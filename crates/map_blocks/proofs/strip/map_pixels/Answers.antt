-- `map_pixels` meets its contract: the palette is widened, and the strip is mapped to it as shades.
use Rattle.std.proofs.Common.{arith}
use Rattle.map_blocks.proofs.Widened.{widened-shades, widened-index, widened-errors}
use Rattle.map_blocks.proofs.strip.map_pixels.Goals as goal

pub map_blocks-requires : goal.map_blocks-requires
map_blocks-requires c =
    let p = c.requires in
    (p.pixels, widened-shades p c.widen.ensures (λ i. omega (arith, c.type_inv.palette i)), p.some, p.few)

pub returns : goal.returns
returns c =
    let e = c.map_blocks.ensures in
    record {
      index = widened-index c.requires c.widen.ensures c.args.index.now e.index;
      errors = widened-errors c.requires c.widen.ensures e.errors;
    }
