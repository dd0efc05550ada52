-- `widen` meets its contract: the bytes before i are in front.
use Rattle.std.proofs.Common.{◌≡◌, get_or}
use Rattle.number.specs.{fill}
use Rattle.map_blocks.proofs.strip.widen.Given as goal

abbrev pub invariant-loop-i : goal.invariant-loop-i
invariant-loop-i l = l.wide ≡ fill l.i (λ j. get_or l.palette j 0) l.initial.wide
