-- `pass_sixteens` passes sixteen keys more at each turn.
use Rattle.std.proofs.Common.{sym, ◌∙◌}
use Rattle.table_back.proofs.back.Sixteens.{passing_step, passing-done}
use Rattle.table_back.proofs.back.pass_sixteens.Goals as goal

pub loop-left-preserved : goal.loop-left-preserved
loop-left-preserved c = passing_step c.loop-left.invariant (sym c.far.ensures ∙ c.loop-left-test.true)

pub returns : goal.returns
returns c = passing-done c.loop-left.invariant (sym c.far.ensures ∙ c.loop-left-test.false)
