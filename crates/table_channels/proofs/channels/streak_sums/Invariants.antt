-- `streak_sums`: the streaks passed are added up.
use Rattle.table_channels.proofs.channels.Adding.{Adding}
use Rattle.table_channels.proofs.channels.streak_sums.Given as goal

abbrev pub invariant-loop-streak : goal.invariant-loop-streak
invariant-loop-streak l = Adding l.list l.red l.green l.blue l.streak-index
