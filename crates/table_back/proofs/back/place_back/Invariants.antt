-- `place_back`: the keys passed are not below the key.
use Rattle.std.proofs.Common.{◌≤◌, ◌<◌, get_or}
use Rattle.table_back.proofs.back.place_back.Given as goal

abbrev pub invariant-loop-left : goal.invariant-loop-left
invariant-loop-left l = (l.left ≤ l.i) × (l.left < l.i → l.key ≤ get_or l.keys l.left 0)

abbrev pub decreases-loop-left : goal.decreases-loop-left
decreases-loop-left l = l.left
