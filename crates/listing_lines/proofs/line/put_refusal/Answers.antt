-- The word is put, and the number behind it.
use Rattle.texts.proofs.Texts.{put_then}
use Rattle.listing_lines.proofs.line.put_refusal.Goals as goal

pub returns : goal.returns
returns c = rw c.from.ensures at (put_then c.put_word-a.ensures c.put_last.ensures)
