-- `settle` meets its contract: the pixels before i are settled.
use Rattle.map_errors.specs.Missing.{pixel_at}
use Rattle.map_errors.specs.Finding.{found_number}
use Rattle.map_errors.proofs.Misses.{miss_at}
use Rattle.map_errors.proofs.Settling.{Settled}
use Rattle.map_errors.proofs.settle.settle.Given as goal

abbrev pub invariant-loop-i : goal.invariant-loop-i
invariant-loop-i l =
    let f = found_number l.which l.best in
    let c = pixel_at l.strip in
    Settled f (miss_at 0 c l.shades f) (miss_at 1 c l.shades f) (miss_at 2 c l.shades f) l.initial.index l.index l.red
    l.green l.blue l.i
