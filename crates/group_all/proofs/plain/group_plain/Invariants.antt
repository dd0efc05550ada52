-- The entries so far have joined their shades, and the sums are those of their groups.
use Rattle.method.specs.{colours_of, joins}
use Rattle.group_sums.specs.{Summed}
use Rattle.group_join.proofs.Turns.{Turned}
use Rattle.group_all.proofs.plain.group_plain.Given as goal

abbrev pub invariant-loop-i : goal.invariant-loop-i
invariant-loop-i l = record {
  turned : Turned l.used l.keys l.weights l.shades l.count (λ j. l.count) l.initial.members l.members l.total
      l.distances l.i;
  summed : Summed (joins (colours_of l.used l.keys l.weights) l.count l.shades) l.keys l.weights l.i l.sums;
}
