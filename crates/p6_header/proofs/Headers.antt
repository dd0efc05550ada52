-- A header is read exactly where one stands.
use Prim.Native.Nat.{ℕ, ◌≤◌, ◌<◌}
use mathlib.Core.List.{List}
use mathlib.Core.Logic.{◌↔◌, inl, inr}
use mathlib.Core.Path.{◌≡◌, refl, sym, ap, ◌∙◌, subst}
use native.Mathlib.Decide.{ℕ_discrete}
use native.Mathlib.Omega.{arith}
use lib.ListN.{length}
use Rattle.std.proofs.Common.{Ok, Err}
use Rattle.number.proofs.Cases.{bool}
use Rattle.grammar.specs.{byte_at, Reading}
use Rattle.p6_gap.specs.{is_white}
use Rattle.p6_gap.proofs.Bytes.{white-inside, white-not-digit}
use Rattle.p6_header.specs.Bytes.{letter_p, figure_six}
use Rattle.p6_header.specs.Fields.{field_at}
use Rattle.p6_header.specs.Headers.{
  HeaderReading,
  header_with,
  and_then,
  last_white,
  fields_by,
  header_of,
  header_number,
}
use Rattle.p6_header.specs.Standing.{Field, HeaderIn}
use Rattle.p6_header.proofs.Fields.{field-first, field-later, field-is-read, Told, read, failed, field_told}
use Rattle.p6_header.proofs.read.Ways.{letter-fails, figure-fails, letters-pass}

-- a header that failed was not read
bad-not-read : {X : Type 0} (at w h d n : ℕ) → Err at ≡ header_with w h d n → X
bad-not-read at w h d n e = absurd (let z = ap header_number e in omega arith)

-- ---- how an input opens

-- another byte than the letter, another than the figure after it, or both and then the fields
pub data Opening (s : List ℕ) : Type 0 where
  no_letter : ¬ (byte_at s 0 ≡ letter_p) → header_of s ≡ Err 0 → Opening s
  no_figure : byte_at s 0 ≡ letter_p → ¬ (byte_at s 1 ≡ figure_six) → header_of s ≡ Err 1 → Opening s
  fields : byte_at s 0 ≡ letter_p → byte_at s 1 ≡ figure_six → header_of s ≡ fields_by field_at s → Opening s

-- with both letters the header goes on with the fields
pub header-fields : (s : List ℕ) → byte_at s 0 ≡ letter_p → byte_at s 1 ≡ figure_six
    → header_of s ≡ fields_by field_at s
header-fields s l f = letters-pass s _ _ refl l refl f

-- which it is
pub opening : (s : List ℕ) → Opening s
opening s = go (ℕ_discrete (byte_at s 0) letter_p) (ℕ_discrete (byte_at s 1) figure_six)
  where
    go : Dec (byte_at s 0 ≡ letter_p) → Dec (byte_at s 1 ≡ figure_six) → Opening s
    go (no l) f = no_letter l (sym (letter-fails s _ refl l))
    go (yes l) (no f) = no_figure l f (sym (figure-fails s _ _ refl l refl f))
    go (yes l) (yes f) = fields l f (header-fields s l f)

-- ---- what is read stands

-- a header that is read stands at the front of its input
abbrev Stands : List ℕ → HeaderReading → Type 0
Stands s (Ok header) = HeaderIn s header.width header.height header.depth header.start
Stands s (Err at) = Unit {0}

module _ (s : List ℕ) (l : byte_at s 0 ≡ letter_p) (f : byte_at s 1 ≡ figure_six) where
  -- after the three fields
  last-stands : (w h d a b e : ℕ) → Field s 2 a w → Field s a b h → Field s b e d → Stands s (last_white s w h d e)
  last-stands w h d a b e fw fh fd = elim (bool (is_white (byte_at s e))) [
    | inl t ↦ rw t (record {
      after-width = a;
      after-height = b;
      after-depth = e;
      letter = l;
      figure = f;
      width_is = fw;
      height_is = fh;
      depth_is = fd;
      last = t;
      ends = refl;
    })
    | inr t ↦ rw t tt
  ]

  -- from the first field on
  fields-stand : Stands s (fields_by field_at s)
  fields-stand = width (field_told s 2)
    where
      depth : (w h a b : ℕ) → Field s 2 a w → Field s a b h → {r : Reading} → Told s b r
          → Stands s (and_then r (λ d e. last_white s w h d e))
      depth w h a b fw fh (read d e fd) = last-stands w h d a b e fw fh fd.field
      depth w h a b fw fh (failed at fd) = tt

      height : (w a : ℕ) → Field s 2 a w → {r : Reading} → Told s a r
          → Stands s (and_then r (λ h b. and_then (field_at s b) (λ d e. last_white s w h d e)))
      height w a fw (read h b fh) = depth w h a b fw fh.field (field_told s b)
      height w a fw (failed at fh) = tt

      width : {r : Reading} → Told s 2 r → Stands s (and_then r (λ w a. and_then (field_at s a)
          (λ h b. and_then (field_at s b) (λ d e. last_white s w h d e))))
      width (read w a fw) = height w a fw.field (field_told s a)
      width (failed at fw) = tt

-- a header that is read stands
pub header-stands : (s : List ℕ) (w h d n : ℕ) → header_of s ≡ header_with w h d n → HeaderIn s w h d n
header-stands s w h d n e = elim (opening s) [
  | no_letter l is ↦ bad-not-read 0 w h d n (sym is ∙ e)
  | no_figure l f is ↦ bad-not-read 1 w h d n (sym is ∙ e)
  | fields l f is ↦ subst (Stands s) (sym is ∙ e) (fields-stand s l f)
]

-- ---- what stands is read

-- a header that stands is read
pub header-reads : (s : List ℕ) (w h d n : ℕ) → HeaderIn s w h d n → header_of s ≡ header_with w h d n
header-reads s w h d n H =
    let width = field-is-read s 2 H.after-width w H.width_is
    (λ l. field-first s _ _ h H.height_is) in
    let height = field-is-read s H.after-width H.after-height h H.height_is
    (λ l. field-first s _ _ d H.depth_is) in
    let depth = field-is-read s H.after-height H.after-depth d H.depth_is
    (λ l. white-not-digit _ H.last) in
    header-fields s H.letter H.figure ∙ rw (width, height, depth, H.last, H.ends)

-- a header is read exactly where it stands
pub header-reads-exactly : (s : List ℕ) (w h d n : ℕ) → (header_of s ≡ header_with w h d n) ↔ HeaderIn s w h d n
header-reads-exactly s w h d n = (header-stands s w h d n, header-reads s w h d n)

-- a header is longer than its letters
pub header-long : (s : List ℕ) (w h d n : ℕ) → HeaderIn s w h d n → 2 < n
header-long s w h d n H =
    omega (
      arith,
      H.ends,
      field-later s 2 H.after-width w H.width_is,
      field-later s H.after-width H.after-height h H.height_is,
      field-later s H.after-height H.after-depth d H.depth_is,
    )

-- a header ends inside its input
pub header-inside : (s : List ℕ) (w h d n : ℕ) → HeaderIn s w h d n → n ≤ length s
header-inside s w h d n H = omega (arith, H.ends, white-inside s H.after-depth H.last)

-- so the place after one that is read is inside it, or its end
pub start-inside : (s : List ℕ) (w h d n : ℕ) → header_of s ≡ header_with w h d n → n ≤ length s
start-inside s w h d n e = header-inside s w h d n (header-stands s w h d n e)
