-- `search_all` searches block after block: its invariant is `Searched`, and that the three lists keep their places.
use Rattle.std.proofs.Common.{◌-◌, min}
use Rattle.search_all.proofs.Layouts.{BlockLists}
use Rattle.search_all.proofs.all.Blocks.{Searched}
use Rattle.search_all.proofs.all.search_all.Given as goal

abbrev pub invariant-loop-start : goal.invariant-loop-start
invariant-loop-start l =
    Searched l.shades l.count l.keys l.used l.initial.members l.members (min l.used l.start)
    × BlockLists l.reds l.greens l.blues

abbrev pub decreases-loop-start : goal.decreases-loop-start
decreases-loop-start l = l.used - l.start
