-- `search_points` looks at shade after shade: its invariant is `Looked`, from the points laid out.
use Rattle.search_all.specs.Asking.{point_at}
use Rattle.search_all.proofs.all.Leasts.{Looked}
use Rattle.search_all.proofs.all.search_points.Given as goal

abbrev pub invariant-loop-q : goal.invariant-loop-q
invariant-loop-q l = Looked l.shades (point_at l.reds l.greens l.blues) l.count l.initial.best l.best l.q
