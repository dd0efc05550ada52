-- `comment_end` passes text only, and ends behind the byte that ends it.
use Rattle.std.proofs.Common.{sym, ◌∙◌}
use Rattle.p6_gap.proofs.comment.Turns.{passed_start, passed-step, passed-done, passed-all}
use Rattle.p6_gap.proofs.comment.comment_end.Goals as goal

pub loop-i-init : goal.loop-i-init
loop-i-init c = passed_start c.args.input.now c.args.at c.requires

pub returns-then-ends_comment : goal.returns-then-ends_comment
returns-then-ends_comment c =
    passed-done c.loop-i.invariant (sym c.ends_comment.ensures ∙ c.if-ends_comment.true)

pub loop-i-preserved : goal.loop-i-preserved
loop-i-preserved c =
    passed-step c.loop-i.invariant c.loop-i-test.true
    (sym c.ends_comment.ensures ∙ c.if-ends_comment.false)

pub returns : goal.returns
returns c = passed-all c.loop-i.invariant c.loop-i-test.false
