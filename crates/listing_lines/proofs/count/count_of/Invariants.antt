-- `count_of` counts the places that hold the number.
use Rattle.std.proofs.Common.{length, get_or}
use lib.Dec.{eqb}
use Rattle.number.proofs.Tallies.{Counting}
use Rattle.listing_lines.proofs.count.count_of.Given as goal

abbrev pub invariant-loop-number : goal.invariant-loop-number
invariant-loop-number l = Counting (length l.index) (λ i. eqb (get_or l.index i 0) l.q) l.count l.number-index
