-- `gap_row` fills place after place.
use Rattle.std.proofs.Common.{◌≡◌}
use Rattle.number.specs.{fill}
use Rattle.shades.specs.{to_shade}
use Rattle.search_gaps.proofs.near.gap_row.Given as goal

abbrev pub invariant-loop-q : goal.invariant-loop-q
invariant-loop-q l = l.row ≡ fill l.q (to_shade l.shades l.fn.p) l.initial.row
