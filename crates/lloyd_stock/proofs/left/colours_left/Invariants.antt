-- `colours_left` counts the fixed shades that take a colour.
use Rattle.number.proofs.Tallies.{Counting}
use Rattle.lloyd_stock.specs.Keys.{takes_one}
use Rattle.lloyd_stock.specs.Stock.{fixed_in}
use Rattle.lloyd_stock.proofs.left.colours_left.Given as goal

abbrev pub invariant-loop-q : goal.invariant-loop-q
invariant-loop-q l = Counting (fixed_in l.fixed) (takes_one l.used l.keys l.fixed) l.taken l.q
