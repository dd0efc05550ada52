-- With no digit there a number fails, and else the digits give its value.
use Rattle.std.proofs.Common.{◌∙◌, arith}
use Rattle.grammar.proofs.Readings.{digits-counted, counted-inside, number-fails, number-reads}
use Rattle.grammar.proofs.decimal.Parts.{part-digits, part-value}
use Rattle.grammar.proofs.decimal.number.Goals as goal

pub returns-then-count-eq0 : goal.returns-then-count-eq0
returns-then-count-eq0 c =
    number-fails c.args.input.now c.args.at _ c.count_digits-count.ensures.0 c.if-count-eq0.true

pub overflow_add-next : goal.overflow_add-next
overflow_add-next c =
    omega (arith, counted-inside c.args.input.now c.args.at _ c.count_digits-count.ensures.0 c.if-count-eq0.false)

pub slice_bounds-decimal_of-end : goal.slice_bounds-decimal_of-end
slice_bounds-decimal_of-end c =
    omega (arith, counted-inside c.args.input.now c.args.at _ c.count_digits-count.ensures.0 c.if-count-eq0.false)

pub decimal_of-value-requires-clause-all : goal.decimal_of-value-requires-clause-all
decimal_of-value-requires-clause-all c =
    let s = c.args.input.now in
    let at = c.args.at in
    let n = c.count_digits-count in
    part-digits s at n.result (digits-counted s at n.result n.ensures.0)
    (counted-inside s at n.result n.ensures.0 c.if-count-eq0.false)

pub returns : goal.returns
returns c =
    let s = c.args.input.now in
    let at = c.args.at in
    let n = c.count_digits-count in
    number-reads s at n.result _ n.ensures.0 c.if-count-eq0.false
    (c.decimal_of-value.ensures ∙ part-value s at n.result (counted-inside s at n.result n.ensures.0
    c.if-count-eq0.false))
