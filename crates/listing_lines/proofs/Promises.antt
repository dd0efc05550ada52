-- What is shown of the lines of a listing, each theorem in full; its body names the proof.
-- `lines_for s palette index` are the lines, as numbers (specs/Texts.antt): the contract of `put_lines` says that their
-- text is put at the buffer's front, and the place behind it answered; that of `put_refusal` says so of `refused_text`.
use Prim.Native.Nat.{ℕ, ◌/◌, ◌^◌, ◌≤◌, ◌<◌}
use mathlib.Core.List.{List}
use mathlib.Core.Path.{◌≡◌}
use lib.ListN.{length}
use Rattle.shades.specs.{most_shades}
use Rattle.grammar.specs.{most_decimal}
use Rattle.texts.specs.{lines_of}
use Rattle.listing_lines.specs.Texts.{most_text, refused_text, lines_for}
use Rattle.listing_lines.specs.declared.Summary.{Summary}
use Rattle.listing_lines.proofs.Rows as rows
use Rattle.listing_lines.proofs.Fields as fields

-- The line of a refusal is never longer than the room of a listing.
pub refused-most : (n : ℕ) → length (refused_text n) ≤ most_text
refused-most = rows.refused-most

-- And so with all lines, for at most 64 shades.
pub lines-most : (s : Summary) (palette index : List ℕ) → length palette / 3 ≤ most_shades
    → length (lines_of (lines_for s palette index)) ≤ most_text
lines-most = rows.lines-most

-- The line of a refusal tells its number.
pub refused-only : (a b : ℕ) → a < 10 ^ most_decimal → b < 10 ^ most_decimal → refused_text a ≡ refused_text b → a ≡ b
refused-only = fields.refused-only

-- No lines are the line of a refusal: they begin with another byte.
pub refused-not-lines : (n : ℕ) (s : Summary) (palette index : List ℕ)
    → ¬ (refused_text n ≡ lines_of (lines_for s palette index))
refused-not-lines = fields.refused-not-lines
