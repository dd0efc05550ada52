-- `take_few`: the pixels passed are in the table.
use Rattle.std.proofs.Common.{take}
use Rattle.table_entries.specs.{strip_keys}
use Rattle.table_fill.proofs.take.Turn.{Taking}
use Rattle.table_fill.proofs.take.take_few.Given as goal

abbrev pub invariant-loop-taken : goal.invariant-loop-taken
invariant-loop-taken l = Taking l.fn.keys l.fn.weights l.used l.room (take l.end (strip_keys l.strip)) l.keys l.weights
    l.now_used l.taken l.sums
