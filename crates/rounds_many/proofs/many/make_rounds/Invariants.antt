-- The rounds so far are made and each moved a shade, and the sums are those of the groups that the members tell, or
-- none yet.
use Rattle.method.specs.{state_of, colours_of, kind_of, holding}
use Rattle.group_sums.specs.{Summed, member_at}
use Rattle.group_join.specs.{anew, covered}
use Rattle.moves.specs.{leaps}
use Rattle.rounds_many.proofs.Turns.{Made, Moving}
use Rattle.rounds_many.proofs.many.make_rounds.Given as goal

abbrev pub invariant-loop-r : goal.invariant-loop-r
invariant-loop-r l = record {
  made : Made (holding l.held (kind_of (leaps l.stride))) (colours_of l.used l.keys l.weights) l.count
      (state_of l.initial.shades l.initial.members) l.initial.totals (state_of l.shades l.members) l.totals l.r
      l.distances;
  moving : Moving (holding l.held (kind_of (leaps l.stride))) (colours_of l.used l.keys l.weights) l.count
      (state_of l.initial.shades l.initial.members) l.r;
  summed : Summed (member_at l.members) l.keys l.weights (covered (anew l.follow) l.used 0) l.sums;
}
