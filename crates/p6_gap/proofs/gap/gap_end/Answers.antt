-- White bytes and comments are passed, and those that are left end where all of them end.
use Rattle.std.proofs.Common.{sym, ◌∙◌}
use Rattle.p6_gap.proofs.gap.Turns.{left-white, left-comment, comment-less, left-done, left-all}
use Rattle.p6_gap.proofs.gap.gap_end.Goals as goal

pub loop-i-preserved-then-is_white : goal.loop-i-preserved-then-is_white
loop-i-preserved-then-is_white c = left-white c.loop-i.invariant (sym c.is_white.ensures ∙ c.if-is_white.true)

pub returns-then-byte-ne35 : goal.returns-then-byte-ne35
returns-then-byte-ne35 c =
    left-done c.loop-i.invariant (sym c.is_white.ensures ∙ c.if-is_white.false) c.if-byte-ne35.true

pub loop-i-smaller : goal.loop-i-smaller
loop-i-smaller c =
    comment-less c.loop-i.invariant _ c.loop-i-test.true c.if-byte-ne35.false c.comment_end-i.ensures

pub loop-i-preserved : goal.loop-i-preserved
loop-i-preserved c = left-comment c.loop-i.invariant _ c.if-byte-ne35.false c.comment_end-i.ensures

pub returns : goal.returns
returns c = left-all c.loop-i.invariant c.loop-i-test.false
