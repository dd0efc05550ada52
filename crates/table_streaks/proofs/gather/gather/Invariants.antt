-- `gather`: at each turn the streaks laid and the one at hand hold the pixels passed.
use Rattle.table_streaks.proofs.gather.Gathers.{Gathering}
use Rattle.table_streaks.proofs.gather.gather.Given as goal

abbrev pub invariant-loop-done : goal.invariant-loop-done
invariant-loop-done l = Gathering l.strip l.from l.most l.fn.list l.list l.streak l.len l.done
