-- `gather` meets its contract: the pixels before i are gathered.
use Rattle.map_slots.proofs.Gathers.{Gathering}
use Rattle.map_slots.proofs.streaks.gather.Given as goal

abbrev pub invariant-loop-i : goal.invariant-loop-i
invariant-loop-i l = Gathering l.strip l.keys l.which l.slots l.last l.i
