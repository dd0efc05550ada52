-- `fill_levels` meets its contract: the places before i have their levels.
use Rattle.std.proofs.Common.{◌≡◌}
use Rattle.number.specs.{fill}
use Rattle.palette_means.specs.Reading.{level_by_sums}
use Rattle.palette_means.proofs.fill.fill_levels.Given as goal

abbrev pub invariant-loop-i : goal.invariant-loop-i
invariant-loop-i l = l.palette ≡ fill l.i (level_by_sums l.fixed l.sums l.coordinates) l.initial.palette
