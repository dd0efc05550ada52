-- A comment that never ends, where one may open: the header fails at the input's length.
use Prim.Native.Nat.{ℕ}
use mathlib.Core.Bool.{false}
use mathlib.Core.List.{List}
use mathlib.Core.Path.{◌≡◌, refl, ◌∙◌, subst}
use lib.ListN.{length}
use Rattle.std.proofs.Common.{Err}
use Rattle.grammar.specs.{byte_at, is_digit}
use Rattle.p6_gap.specs.{Whites, Unended}
use Rattle.p6_gap.proofs.Bytes.{hash-not-digit}
use Rattle.p6_gap.proofs.Gaps.{whites-first}
use Rattle.p6_header.specs.Fields.{field_at}
use Rattle.p6_header.specs.Headers.{fields_by, header_of}
use Rattle.p6_header.specs.Standing.{unended, PartEnds, letters, width, height, Between}
use Rattle.p6_header.proofs.Fields.{field-first, field-is-read, field-is-failed}
use Rattle.p6_header.proofs.Headers.{header-fields}

module _ (s : List ℕ) (at : ℕ) (u : Unended s at) where
  -- the field that it opens in fails there
  field-unended : (end : ℕ) → Whites s end at → field_at s end ≡ Err (length s)
  field-unended end ws = field-is-failed s end (length s) (unended at ws u refl)

  -- a field before it is ended by it, or by the white bytes and comments before it
  field-ended : (end : ℕ) → Whites s end at → is_digit (byte_at s end) ≡ false
  field-ended end ws = whites-first s end at ws (hash-not-digit _ u.opens)

  -- so the fields fail there, whichever it opens in
  fields-unended : (end : ℕ) → PartEnds s end → Whites s end at → fields_by field_at s ≡ Err (length s)
  fields-unended end (letters e) ws = rw (field-unended 2 (subst (λ i. Whites s i at) e ws))
  fields-unended end (width v f) ws =
      rw (field-is-read s 2 end v f (λ l. field-ended end ws), field-unended end ws)
  fields-unended end (height m v n f g) ws =
      rw (
        field-is-read s 2 m v f (λ l. field-first s m end n g),
        field-is-read s m end n g (λ l. field-ended end ws),
        field-unended end ws,
      )

-- and the header does
pub unended-fails : (s : List ℕ) (at : ℕ) → Between s at → Unended s at → header_of s ≡ Err (length s)
unended-fails s at b u =
    header-fields s b.letter b.figure ∙ fields-unended s at u b.end b.part b.whites
