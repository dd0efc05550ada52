-- A header in which no comment opens is read as document 01 reads it.
use Prim.Native.Nat.{ℕ, ◌+◌}
use mathlib.Core.List.{List}
use mathlib.Core.Path.{◌≡◌, refl, ap, ◌∙◌}
use lib.ListN.{length}
use native.Mathlib.Decide.{ℕ_discrete}
use borrow.Author.Tests.{eq-eqb, ne_eqb}
use Rattle.grammar.specs.{byte_at, Reading}
use Rattle.grammar.proofs.Spans.{span-all, row_ends}
use Rattle.p6_gap.specs.{is_white, hash, gap_end, Whites}
use Rattle.p6_gap.proofs.Bytes.{nothing-white}
use Rattle.p6_gap.proofs.Gaps.{gap-only, row-whites}
use Rattle.p6_header.specs.Bytes.{letter_p, figure_six}
use Rattle.p6_header.specs.Fields.{number_behind, field_at}
use Rattle.p6_header.specs.Headers.{HeaderReading, and_then, last_white, fields_by, header_of}
use Rattle.p6_header.specs.Plain.{whites_at, plain_field, plain_header}
use Rattle.p6_header.specs.Standing.{FieldRead, PartEnds, letters, width, height, Between}
use Rattle.p6_header.proofs.Fields.{Told, read, failed, field_told}

-- a field in which none opens
field_plain : (s : List ℕ) (a : ℕ) → ((at : ℕ) → Whites s a at → ¬ (byte_at s at ≡ hash))
    → field_at s a ≡ plain_field s a
unfolding field_at
field_plain s a none =
    let ws : Whites s a (a + whites_at s a) = row-whites s (whites_at s a) a (span-all is_white (length s) s a) in
    let end : gap_end s a ≡ a + whites_at s a =
    gap-only s a (a + whites_at s a) ws (row_ends is_white nothing-white s a) (none (a + whites_at s a) ws) in
    ap (number_behind s a) end

-- what goes on alike after a field that is read goes on alike
then_same : (s : List ℕ) (a : ℕ) (k l : ℕ → ℕ → HeaderReading) {r : Reading} → Told s a r
    → ((value b : ℕ) → FieldRead s a b value → k value b ≡ l value b) → and_then r k ≡ and_then r l
then_same s a k l (read value b f) same = same value b f
then_same s a k l (failed at f) same = refl

module _ (s : List ℕ) (l : byte_at s 0 ≡ letter_p) (f : byte_at s 1 ≡ figure_six)
    (none : (at : ℕ) → Between s at → ¬ (byte_at s at ≡ hash)) where
  -- behind a part
  behind-plain : (end : ℕ) → PartEnds s end → field_at s end ≡ plain_field s end
  behind-plain end part =
      field_plain s end (λ at ws. none at (record {
        letter = l;
        figure = f;
        end = end;
        part = part;
        whites = ws;
      }))

  -- the three fields
  fields-plain : fields_by field_at s ≡ fields_by plain_field s
  fields-plain =
      then_same s 2 _ _ (field_told s 2) (λ w a fw.
      then_same s a _ _ (field_told s a) (λ h b fh.
      ap (λ r. and_then r (last_white s w h)) (behind-plain b (height a w h fw.field fh.field)))
      ∙ ap (λ r. and_then r (λ h b. and_then (plain_field s b) (last_white s w h)))
      (behind-plain a (width w fw.field)))
      ∙ ap (λ r. and_then r (λ w a. and_then (plain_field s a) (λ h b. and_then (plain_field s b) (last_white s w h))))
      (behind-plain 2 (letters refl))

-- a header in which none opens
pub header-plain : (s : List ℕ) → ((at : ℕ) → Between s at → ¬ (byte_at s at ≡ hash)) → header_of s ≡ plain_header s
unfolding header_of
header-plain s none = go (ℕ_discrete (byte_at s 0) letter_p) (ℕ_discrete (byte_at s 1) figure_six)
  where
    go : Dec (byte_at s 0 ≡ letter_p) → Dec (byte_at s 1 ≡ figure_six) → header_of s ≡ plain_header s
    go (no l) f = rw (ne_eqb _ _ l) refl
    go (yes l) (no f) = rw (eq-eqb _ _ l, ne_eqb _ _ f) refl
    go (yes l) (yes f) = rw (eq-eqb _ _ l, eq-eqb _ _ f) (fields-plain s l f none)
