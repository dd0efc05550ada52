-- `add_told` meets its contract: what is told of the pixels before i is settled.
use Rattle.map_errors.proofs.Settling.{Settled}
use Rattle.map_tell.specs.Telling.{told_of}
use Rattle.map_tell.proofs.tell.add_told.Given as goal

abbrev pub invariant-loop-i : goal.invariant-loop-i
invariant-loop-i l =
    let x = told_of l.which l.told in
    Settled (x 3) (x 0) (x 1) (x 2) l.initial.index l.index l.red l.green l.blue l.i
