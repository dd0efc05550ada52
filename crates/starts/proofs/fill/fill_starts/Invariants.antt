-- `fill_starts` stores start after start: its invariant is `Storing`.
use Rattle.method.specs.{listed}
use Rattle.starts.proofs.fill.Choosing.{Storing}
use Rattle.starts.proofs.fill.fill_starts.Given as goal

abbrev pub invariant-loop-q : goal.invariant-loop-q
invariant-loop-q l =
    Storing l.keys l.used (listed l.base) l.count l.initial.shades l.initial.members l.shades l.members l.p l.q
