-- `look` lowers place after place.
use Rattle.std.proofs.Common.{◌≡◌}
use Rattle.number.specs.{fill}
use Rattle.search_all.specs.Asking.{point_at, looked_at}
use Rattle.search_all.proofs.all.look.Given as goal

abbrev pub invariant-loop-i : goal.invariant-loop-i
invariant-loop-i l =
    l.best ≡ fill l.i (looked_at (point_at l.reds l.greens l.blues) l.fn.p l.q l.initial.best) l.initial.best
