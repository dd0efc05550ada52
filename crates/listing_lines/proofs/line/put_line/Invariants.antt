-- The fields so far are put, so that putting the rest ends the line.
use Rattle.listing_lines.proofs.Lines.{Turn}
use Rattle.listing_lines.proofs.line.put_line.Given as goal

abbrev pub invariant-loop-field : goal.invariant-loop-field
invariant-loop-field l = Turn l.at l.fields l.initial.out l.field-index l.a l.out
