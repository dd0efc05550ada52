-- `tell` meets its contract: of the slots before i it is told.
use Rattle.std.proofs.Common.{◌≡◌, ◌*◌}
use Rattle.number.specs.{fill}
use Rattle.map_slots.specs.{levels_of}
use Rattle.map_errors.specs.{found_number}
use Rattle.map_tell.specs.Telling.{cells_of}
use Rattle.map_tell.proofs.tell.tell.Given as goal

abbrev pub invariant-loop-i : goal.invariant-loop-i
invariant-loop-i l =
    l.told ≡ fill (4 * l.i) (cells_of (levels_of l.keys l.link) l.shades (found_number l.link l.best)) l.initial.told
