-- `channel_means` meets its contract: each channel is one quotient.
use borrow.Author.Tests.{eq-eqb, ne_eqb}
use lib.Ieee.{of_bits}
use Rattle.figures.proofs.divide.channel_means.Goals as goal

pub returns-then-pixels-eq0 : goal.returns-then-pixels-eq0
unfolding of_bits
returns-then-pixels-eq0 c = simp (eq-eqb _ _ c.if-pixels-eq0.true)

pub returns : goal.returns
returns c = simp (ne_eqb _ _ c.if-pixels-eq0.false) (cc)
