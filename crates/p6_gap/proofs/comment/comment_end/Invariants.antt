-- `comment_end` passes text only.
use Rattle.p6_gap.proofs.comment.Turns.{Passed}
use Rattle.p6_gap.proofs.comment.comment_end.Given as goal

abbrev pub invariant-loop-i : goal.invariant-loop-i
invariant-loop-i l = Passed l.input l.at l.i
