-- `final_total` meets its contract: the loop adds entry after entry.
use Rattle.std.proofs.Common.{◌+◌, ◌*◌, get_or, refl, arith}
use Rattle.number.specs.{sum}
use Rattle.number.proofs.Sums.{sum_more}
use Rattle.shades.specs.{to_shade}
use Rattle.method.specs.{colours_of}
use Rattle.method.proofs.Sizes.{fair-of-table, spent-at-most}
use Rattle.rounds.proofs.total.final_total.Goals as goal

pub loop-i-init : goal.loop-i-init
unfolding sum
loop-i-init c = refl

pub overflow_add-total : goal.overflow_add-total
overflow_add-total c =
    let a = c.args in
    let l = c.loop-i in
    let C = colours_of a.used a.keys.now a.weights.now in
    rw (
      l.invariant,
      c.entry_cost-total.ensures,
      ← sum_more l.i (λ j. C.w j * to_shade a.shades.now (C.c j) (get_or a.members.now j 0)),
    )
    (omega (
      arith,
      spent-at-most C (fair-of-table c.requires.steppable.table) a.shades.now c.requires.steppable.fit.shades.low
          (λ j. get_or a.members.now j 0) (l.i + 1) (omega arith),
    ))

pub loop-i-preserved : goal.loop-i-preserved
loop-i-preserved c = rw (c.loop-i.invariant, c.entry_cost-total.ensures, sum_more)
