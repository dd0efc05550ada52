-- `lay_out` stores point after point: its invariant is `Fronts`.
use Rattle.std.proofs.Common.{length}
use Rattle.search_all.specs.Asking.{scaled_at}
use Rattle.search_all.proofs.Layouts.{Fronts}
use Rattle.search_all.proofs.all.lay_out.Given as goal

abbrev pub invariant-loop-i : goal.invariant-loop-i
invariant-loop-i g l =
    Fronts (scaled_at g.row.SCALE l.keys) (length l.keys) l.initial.reds l.initial.greens l.initial.blues
    l.reds l.greens l.blues l.i
