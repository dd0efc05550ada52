-- `count_with`: the streaks left are the first of the list, and what is counted is so whatever the weights are.
use Rattle.std.proofs.Common.{◌≡◌, ℕ, ◌≤◌, List, length, take}
use Rattle.table_count.proofs.count.Counting.{Counted}
use Rattle.table_count.proofs.count.count_with.Given as goal

-- the streaks left
abbrev pub left : goal.Live-loop-streak → List ℕ
left l = l.streak-iterator.iter.rest.now

abbrev pub invariant-loop-streak : goal.invariant-loop-streak
invariant-loop-streak l = record {
  under : l.i ≤ l.used;
  first : left l ≡ take (length (left l)) l.list;
  counted : (ws : List ℕ) → l.used ≤ length ws → Counted l.keys ws l.used l.list l.i l.count l.last (length (left l));
}
