-- `fill_gaps` fills row after row: its invariant is `Filling`.
use Rattle.search_rows.proofs.Fillings.{Filling}
use Rattle.search_gaps.proofs.Nears.{GapRow}
use Rattle.search_gaps.proofs.near.fill_gaps.Given as goal

abbrev pub invariant-loop-p : goal.invariant-loop-p
invariant-loop-p l = Filling l.count (GapRow l.shades l.count) l.initial.gaps l.gaps l.p
