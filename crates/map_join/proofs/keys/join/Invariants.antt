-- `join` meets its contract: the slots before i are joined.
use Rattle.map_join.proofs.Joins.{Joining}
use Rattle.map_join.proofs.keys.join.Given as goal

abbrev pub invariant-loop-i : goal.invariant-loop-i
invariant-loop-i l = Joining l.initial.keys l.keys l.link l.taken l.i
