-- The total is that of the entries so far.
use Rattle.std.proofs.Common.{◌≡◌, ◌*◌, get_or}
use Rattle.number.specs.{sum}
use Rattle.shades.specs.{to_shade, colour_at}
use Rattle.rounds.proofs.total.final_total.Given as goal

abbrev pub invariant-loop-i : goal.invariant-loop-i
invariant-loop-i l =
    l.total ≡ sum l.i (λ j. get_or l.weights j 0 * to_shade l.shades (colour_at l.keys j) (get_or l.members j 0))
