-- `map_block` meets its contract: the pixels are gathered, and mapped by their slots.
use Rattle.std.proofs.Common.{◌≡◌, ◌/◌, length, arith}
use Rattle.colour.specs.{Bytes}
use Rattle.map_block.proofs.block.Searches.{gathered-index, gathered-errors}
use Rattle.map_block.proofs.block.map_block.Goals as goal

pub returns-then-slots-le256 : goal.returns-then-slots-le256
returns-then-slots-le256 c =
    let a = c.args in
    let n : length a.strip.now / 3 ≡ length a.index.now = omega (arith, c.requires.0) in
    let bytes : Bytes a.strip.now = λ i. omega (arith, c.type_inv.strip i) in
    let g = rw n at c.gather-slots.ensures in
    record {
      index = gathered-index a.strip.now bytes g a.shades.now a.count a.index.now c.map_few.ensures.index;
      errors = gathered-errors a.strip.now bytes g a.shades.now a.count c.map_few.ensures.errors;
    }
