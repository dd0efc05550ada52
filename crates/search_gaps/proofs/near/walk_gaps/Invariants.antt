-- `walk_gaps` goes through shade after shade: its invariant is `Sought`.
use Rattle.search_gaps.proofs.Nears.{Sought}
use Rattle.search_gaps.proofs.near.walk_gaps.Given as goal

abbrev pub invariant-loop-q : goal.invariant-loop-q
invariant-loop-q l = Sought l.shades l.count l.fn.point l.p l.best l.others l.q
