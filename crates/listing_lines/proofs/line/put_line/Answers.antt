-- Each turn puts one field more, and the last field is put behind the loop.
use Rattle.std.proofs.Common.{◌-◌, ◌<◌, length, arith}
use Rattle.std.proofs.lemmas.List.{get_or-take, length-take-le}
use Rattle.listing_lines.proofs.Lines.{turn-start, turn_step, turn-done}
use Rattle.listing_lines.proofs.line.put_line.Goals as goal

pub loop-field-init : goal.loop-field-init
loop-field-init c = turn-start c.args.at c.args.fields.now c.args.out.now c.requires.0

pub put_field-a-requires : goal.put_field-a-requires
put_field-a-requires c =
    let n = length-take-le (length c.args.fields.now - 1) c.args.fields.now (omega arith) in
    omega (arith, c.loop-field.invariant.few, c.loop-field.invariant.long, n, c.requires.1)

pub loop-field-preserved : goal.loop-field-preserved
loop-field-preserved c =
    let n = length-take-le (length c.args.fields.now - 1) c.args.fields.now (omega arith) in
    let before : c.loop-field.field-index < length c.args.fields.now - 1 = omega (arith, n) in
    turn_step c.loop-field.invariant (omega (arith, before))
    (rw (get_or-take (length c.args.fields.now - 1) c.args.fields.now c.loop-field.field-index 0 before) at
    c.put_field-a.ensures)

pub put_last-requires : goal.put_last-requires
put_last-requires c =
    let t = c.loop-field.invariant in
    omega (arith, t.few, t.long, t.within, c.requires.1)

pub returns : goal.returns
returns c =
    let n = length-take-le (length c.args.fields.now - 1) c.args.fields.now (omega arith) in
    turn-done c.loop-field.invariant (omega (arith, n)) c.put_last.ensures
