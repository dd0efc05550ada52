-- `list_all` ends: each input begins behind the one before it.
use Rattle.std.proofs.Common.{◌-◌}
use Rattle.listing_many.proofs.list_all.Given as goal

abbrev pub decreases-loop-at : goal.decreases-loop-at
decreases-loop-at g l = l.n - l.at
