-- `map_few` meets its contract: the slots are joined, searched and told of.
use Rattle.std.proofs.Common.{arith}
use Rattle.map_block.proofs.few.Fews.{few-tellable, few-told, told-asked, told-index, told-errors}
use Rattle.map_block.proofs.few.map_few.Goals as goal

pub tell-requires : goal.tell-requires
tell-requires c =
    let p = c.requires in
    let j = c.join-joined in
    few-tellable c.args.scratch.now.keys p.0 p.1 (omega (arith, p.3.at_most)) j.auto.keys (omega (arith, p.3.at_most))
    j.ensures c.args.scratch.now.best (omega (arith, p.3.at_most, j.ensures.few)) c.search_slots.ensures _
    (omega (arith, p.3.at_most))

pub add_told-requires : goal.add_told-requires
add_told-requires c =
    let p = c.requires in
    let j = c.join-joined in
    let t = few-told c.args.scratch.now.keys p.0 p.1 (omega (arith, p.3.at_most)) j.auto.keys
    (omega (arith, p.3.at_most)) j.ensures c.args.scratch.now.best (omega (arith, p.3.at_most, j.ensures.few))
    c.search_slots.ensures _ (omega (arith, p.3.at_most)) c.tell.ensures in
    told-asked t _ _ p.3 p.0 p.1 (omega arith) (omega (arith, p.2))

pub returns : goal.returns
returns c =
    let p = c.requires in
    let j = c.join-joined in
    let t = few-told c.args.scratch.now.keys p.0 p.1 (omega (arith, p.3.at_most)) j.auto.keys
    (omega (arith, p.3.at_most)) j.ensures c.args.scratch.now.best (omega (arith, p.3.at_most, j.ensures.few))
    c.search_slots.ensures _ (omega (arith, p.3.at_most)) c.tell.ensures in
    record {
      index = told-index t _ _ p.3 c.args.index.now c.add_told.ensures.index;
      errors = told-errors t _ _ p.3 c.add_told.ensures.errors;
    }
