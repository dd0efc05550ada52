-- Readings and headers by their cases: which facts give which case, and that number and values tell the case.
use Prim.Native.Nat.{ℕ}
use mathlib.Core.List.{List, [], ◌∷◌}
use mathlib.Core.Logic.{◌↔◌}
use mathlib.Core.Path.{◌≡◌, ap, subst}
use native.Mathlib.Omega.{arith}
use lib.ListN.{get_or}
use Rattle.std.proofs.Common.{Ok, Err, ◌∙◌}
use Rattle.refusal.specs.{number_of, done, BadHeader}
use Rattle.grammar.specs.{Reading, number_with}
use Rattle.p6_header.specs.Fields.{field_at, reading_number, reading_values, ReadingSays}
use Rattle.p6_header.specs.Headers.{HeaderReading, header_with, header_of, header_number, header_values, HeaderSays}
use Rattle.p6_header.specs.Standing.{FieldFailed, FieldRead, HeaderIn, FirstWrong}
use Rattle.p6_header.proofs.Fields.{Told, read, failed, field_told, field-is-read, field-is-failed}
use Rattle.p6_header.proofs.Headers.{header-reads-exactly}
use Rattle.p6_header.proofs.Wrongs.{header-fails-exactly}

-- ---- what a reading says of its input

-- what stands where a reading says it does
abbrev Means : List ℕ → ℕ → Reading → Type 0
Means s a (Ok number) = FieldRead s a number.next number.value
Means s a (Err at) = FieldFailed s a at

-- every reading of a field means what it says
meant : {s : List ℕ} {a : ℕ} {r : Reading} → Told s a r → Means s a r
meant (read value b f) = f
meant (failed at f) = f

-- a field is read exactly where it stands
field-reads-exactly : (s : List ℕ) (a b value : ℕ) → (field_at s a ≡ number_with value b) ↔ FieldRead s a b value
field-reads-exactly s a b value = (
  λ e. subst (Means s a) e (meant (field_told s a)),
  λ f. field-is-read s a b value f.field f.ended,
)

-- and fails exactly where it cannot be read
field-fails-exactly : (s : List ℕ) (a at : ℕ) → (field_at s a ≡ Err at) ↔ FieldFailed s a at
field-fails-exactly s a at = (
  λ e. subst (Means s a) e (meant (field_told s a)),
  λ f. field-is-failed s a at f,
)

-- ---- number and values tell the case

-- two lists that are equal hold the same at each place
at_place : (l m : List ℕ) (i : ℕ) → l ≡ m → get_or l i 0 ≡ get_or m i 0
at_place l m i e = ap (λ x. get_or x i 0) e

-- a reading is told by its number and its values
pub reading-only : (q r : Reading) → reading_number q ≡ reading_number r → reading_values q ≡ reading_values r → q ≡ r
reading-only (Ok q) (Ok r) e f =
    ap (λ v. number_with v q.next) (at_place _ _ 0 f) ∙ ap (λ n. number_with r.value n) (at_place _ _ 1 f)
reading-only (Ok q) (Err b) e f = absurd (omega arith)
reading-only (Err a) (Ok r) e f = absurd (omega arith)
reading-only (Err a) (Err b) e f = ap {B = Reading} Err (at_place _ _ 0 f)

-- a header is told by its number and its values
pub header-only : (g h : HeaderReading) → header_number g ≡ header_number h → header_values g ≡ header_values h → g ≡ h
header-only (Ok g) (Ok h) e f =
    ap (λ w. header_with w g.height g.depth g.start) (at_place _ _ 0 f)
    ∙ ap (λ t. header_with h.width t g.depth g.start) (at_place _ _ 1 f)
    ∙ ap (λ d. header_with h.width h.height d g.start) (at_place _ _ 2 f)
    ∙ ap (λ n. header_with h.width h.height h.depth n) (at_place _ _ 3 f)
header-only (Ok g) (Err b) e f = absurd (omega arith)
header-only (Err a) (Ok h) e f = absurd (omega arith)
header-only (Err a) (Err b) e f = ap {B = HeaderReading} Err (at_place _ _ 0 f)

-- ---- so what is read and what fails is told by what is said

-- a reading says a number and values exactly where it is the reading of these
says-reading : (q r : Reading) → ReadingSays q (reading_number r) (reading_values r) ↔ (q ≡ r)
says-reading q r = (λ s. reading-only q r s.0 s.1, λ e. (ap reading_number e, ap reading_values e))

-- and so a header
says-header : (g h : HeaderReading) → HeaderSays g (header_number h) (header_values h) ↔ (g ≡ h)
says-header g h = (λ s. header-only g h s.0 s.1, λ e. (ap header_number e, ap header_values e))

-- two steps are one
through : {A B C : Type 0} → A ↔ B → B ↔ C → A ↔ C
through f g = (λ a. g.0 (f.0 a), λ c. f.1 (g.1 c))

module _ (s : List ℕ) (a : ℕ) where
  -- a field says "read" exactly where it stands
  pub field-says-read : (b value : ℕ)
      → ReadingSays (field_at s a) done (value ∷ b ∷ []) ↔ FieldRead s a b value
  field-says-read b value = through (says-reading (field_at s a) (number_with value b))
      (field-reads-exactly s a b value)

  -- and "failed" exactly where it fails
  pub field-says-failed : (at : ℕ) → ReadingSays (field_at s a) (number_of BadHeader) (at ∷ []) ↔ FieldFailed s a at
  field-says-failed at = through (says-reading (field_at s a) (Err at)) (field-fails-exactly s a at)

module _ (s : List ℕ) where
  -- a header says "read" exactly where it stands
  pub header-says-read : (w h d n : ℕ)
      → HeaderSays (header_of s) done (w ∷ h ∷ d ∷ n ∷ []) ↔ HeaderIn s w h d n
  header-says-read w h d n = through (says-header (header_of s) (header_with w h d n)) (header-reads-exactly s w h d n)

  -- and "failed" exactly at the first wrong byte
  pub header-says-failed : (at : ℕ) → HeaderSays (header_of s) (number_of BadHeader) (at ∷ []) ↔ FirstWrong s at
  header-says-failed at = through (says-header (header_of s) (Err at)) (header-fails-exactly s at)
