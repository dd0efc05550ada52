-- `lay_stock` fills place after place.
use Rattle.std.proofs.Common.{◌≡◌, get_or}
use Rattle.number.specs.{fill}
use Rattle.colour.specs.{sixteenth}
use Rattle.lloyd_stock.proofs.lay.lay_stock.Given as goal

abbrev pub invariant-loop-i : goal.invariant-loop-i
invariant-loop-i l = l.base ≡ fill l.i (λ j. sixteenth (get_or l.fixed j 0)) l.initial.base
