-- `quotient` meets its contract: the division is that of `figure`.
use mathlib.Core.Path.{refl}
use Rattle.figures.specs.Figures.{figure}
use Rattle.figures.proofs.divide.quotient.Goals as goal

pub returns : goal.returns
unfolding figure
returns c = refl
