-- `mean_figure` meets its contract: the test tells the two cases apart.
use Rattle.std.proofs.Common.{ap, Some}
use borrow.Author.Tests.{eq-eqb, ne_eqb}
use Rattle.figures.proofs.divide.mean_figure.Goals as goal

pub returns-then-pixels-eq0 : goal.returns-then-pixels-eq0
returns-then-pixels-eq0 c = simp (eq-eqb _ _ c.if-pixels-eq0.true)

pub returns : goal.returns
returns c = simp (ne_eqb _ _ c.if-pixels-eq0.false) (ap Some c.quotient.ensures)
