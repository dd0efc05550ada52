-- `count_of` counts the places that hold the number.
use Rattle.std.proofs.Common.{arith, get_or}
use lib.Dec.{eqb}
use Rattle.number.proofs.Tallies.{counting-start}
use Rattle.shades.proofs.Countings.{counting-more}
use Rattle.listing_lines.proofs.count.count_of.Goals as goal

pub loop-number-init : goal.loop-number-init
loop-number-init c = counting-start _ (λ i. eqb (get_or c.args.index.now i 0) c.args.q)

pub loop-number-preserved : goal.loop-number-preserved
loop-number-preserved c =
    counting-more c.loop-number.invariant (omega arith) c.from-count.result
    (rw c.from.ensures at c.from-count.ensures)
