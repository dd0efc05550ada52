-- The counts so far are filled.
use Rattle.std.proofs.Common.{◌≡◌}
use Rattle.number.specs.{fill}
use Rattle.listing_lines.specs.Texts.{mapped_to}
use Rattle.listing_lines.proofs.count.count_shades.Given as goal

abbrev pub invariant-loop-q : goal.invariant-loop-q
invariant-loop-q l = l.counts ≡ fill l.q (mapped_to l.index) l.initial.counts
