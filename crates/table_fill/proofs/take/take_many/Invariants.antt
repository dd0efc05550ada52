-- `take_many`: the pixels taken are in the table. The measure falls since a chunk goes in, or the limit falls below the
-- chunk that did not.
use Rattle.std.proofs.Common.{◌+◌, ◌-◌, ◌≤◌, ◌<◌, take}
use Rattle.table_entries.specs.{strip_keys}
use Rattle.table_fill.proofs.take.Turn.{Taking}
use Rattle.table_fill.proofs.take.take_many.Given as goal

abbrev pub invariant-loop-taken : goal.invariant-loop-taken
invariant-loop-taken l = record {
  within : l.taken ≤ l.end;
  some : l.taken < l.end → 0 < l.limit;
  taking : Taking l.fn.keys l.fn.weights l.used l.room (take l.end (strip_keys l.strip)) l.keys l.weights l.now_used
      l.taken l.sums;
}

abbrev pub decreases-loop-taken : goal.decreases-loop-taken
decreases-loop-taken l = (l.end - l.taken) + l.limit
