-- The entries so far have joined their shades, and the sums are those of the groups that the members tell.
use Rattle.group_sums.specs.{Summed, member_at}
use Rattle.group_join.specs.{anew, covered}
use Rattle.group_join.proofs.Turns.{Turned}
use Rattle.groups.proofs.short.Formers.{short_works}
use Rattle.groups.proofs.short.group_short.Given as goal

abbrev pub invariant-loop-i : goal.invariant-loop-i
invariant-loop-i l = record {
  turned : Turned l.used l.keys l.weights l.shades l.count
      (short_works l.keys l.shades l.count l.initial.members) l.initial.members l.members l.total l.distances l.i;
  summed : Summed (member_at l.members) l.keys l.weights (covered (anew l.follow) l.used l.i) l.sums;
}
