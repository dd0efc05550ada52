-- `walk` walks place after place: its invariant is `Walked`.
use Rattle.search_near.proofs.Walks.{Walked}
use Rattle.search_near.proofs.short.walk.Given as goal

abbrev pub invariant-loop-j : goal.invariant-loop-j
invariant-loop-j l = Walked l.shades l.rows l.count l.fn.point l.p l.best l.j
