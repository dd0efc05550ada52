-- `sum_groups` meets its contract: the sums are over the entries before i.
use Rattle.group_sums.specs.{Summed, member_at}
use Rattle.palette_means.proofs.sums.sum_groups.Given as goal

abbrev pub invariant-loop-i : goal.invariant-loop-i
invariant-loop-i l = Summed (member_at l.members) l.keys l.weights l.i l.sums
