-- The lines of the shades so far are put.
use Rattle.std.proofs.Common.{get_or}
use Rattle.texts.specs.{lines_of, PutMeets}
use Rattle.listing_lines.specs.Texts.{shade_rows}
use Rattle.listing_lines.proofs.text.put_rows.Given as goal

abbrev pub invariant-loop-q : goal.invariant-loop-q
invariant-loop-q l =
    PutMeets l.at (lines_of (shade_rows l.q l.palette (λ i. get_or l.counts i 0))) l.initial.out l.a l.out
