-- `map_many` meets its contract: the slots are searched, and the pixels settled.
use Rattle.std.proofs.Common.{arith}
use Rattle.map_block.proofs.block.Searches.{searched-pixels, searched-found, searched-index, searched-errors}
use Rattle.map_block.proofs.block.map_many.Goals as goal

pub settle-requires : goal.settle-requires
settle-requires c =
    let p = c.requires in
    let w = searched-pixels c.args.strip.now (λ i. omega (arith, c.type_inv.strip i)) p.1 p.2 p.4
    (omega (arith, p.4.few)) c.args.scratch.now.best (omega (arith, p.4.few)) c.search_slots.ensures in
    searched-found c.args.strip.now w p.1 p.2 p.0 (omega arith) (omega (arith, p.3))

pub returns : goal.returns
returns c =
    let p = c.requires in
    let w = searched-pixels c.args.strip.now (λ i. omega (arith, c.type_inv.strip i)) p.1 p.2 p.4
    (omega (arith, p.4.few)) c.args.scratch.now.best (omega (arith, p.4.few)) c.search_slots.ensures in
    record {
      index = searched-index w c.args.index.now c.settle.ensures.index;
      errors = searched-errors w c.settle.ensures.errors;
    }
