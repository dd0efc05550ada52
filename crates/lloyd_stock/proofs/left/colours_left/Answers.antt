-- `colours_left` counts the fixed shades that take a colour, and these are what the used colours have less.
use Rattle.std.proofs.Common.{◌≡◌, ◌≤◌, ◌-◌, ◌∙◌, ap, arith}
use Rattle.std.specs.Int.{from_bool}
use Rattle.number.proofs.Tallies.{counting-start, counting-done}
use Rattle.shades.proofs.Countings.{counting-more}
use Rattle.lloyd_stock.specs.Stock.{colours_left}
use Rattle.lloyd_stock.proofs.Lefts.{left_is}
use Rattle.lloyd_stock.proofs.left.colours_left.Goals as goal
use Rattle.lloyd_stock.proofs.left.colours_left.Goals.{After-loop-q}

-- past the loop the count is what the used colours have less
taken_is : (c : After-loop-q) → let a = c.args in
    (c.loop-q.taken ≤ a.used) × (a.used - c.loop-q.taken ≡ colours_left a.used a.keys.now a.fixed.now)
taken_is c =
    left_is c.args.fixed.now (λ i. omega (arith, c.type_inv.fixed i)) c.requires.0 c.requires.1 c.loop-q.taken
    (counting-done c.loop-q.invariant (omega arith))

pub loop-q-init : goal.loop-q-init
loop-q-init c = counting-start _ _

pub loop-q-preserved : goal.loop-q-preserved
loop-q-preserved c =
    counting-more c.loop-q.invariant (omega arith) c.from-taken.result
    (c.from-taken.ensures ∙ ap from_bool c.takes_one.ensures)

pub overflow_sub-result : goal.overflow_sub-result
overflow_sub-result c = (taken_is c).0

pub returns : goal.returns
returns c = (taken_is c).1
