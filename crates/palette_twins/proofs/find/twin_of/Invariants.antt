-- `twin_of` meets its contract: no entry before q has an equal before it, and their sites are marked.
use Rattle.palette_twins.proofs.Finds.{Passed}
use Rattle.palette_twins.proofs.find.twin_of.Given as goal

abbrev pub invariant-loop-q : goal.invariant-loop-q
invariant-loop-q l = Passed l.palette l.marks l.q
