-- A field, as it is read and as it stands: a gap and a number behind it, from one place to another.
use Prim.Native.Nat.{ℕ, ◌+◌, ◌<◌}
use mathlib.Core.Bool.{false}
use mathlib.Core.List.{List}
use mathlib.Core.Path.{◌≡◌, refl, sym, ap, ◌∙◌, subst}
use native.Mathlib.Decide.{ℕ_discrete}
use native.Mathlib.Omega.{arith}
use Rattle.grammar.specs.{byte_at, is_digit, most_digits, digits_at, decimal, number_at, Reading, number_with}
use Rattle.std.proofs.Common.{Err}
use Rattle.grammar.proofs.Spans.{span-at-most, span-all, span-ends, span-only, all_first, byte_past, nothing-digit}
use Rattle.grammar.proofs.Readings.{number-reads, number-fails}
use Rattle.p6_gap.specs.{gap_end, Whites, GapRead}
use Rattle.p6_gap.specs.Standing.{stops, open_ended}
use Rattle.p6_gap.proofs.Bytes.{hash-inside, digit-not-white, hash-not-digit}
use Rattle.p6_gap.proofs.Gaps.{
  whites-later,
  gap-later,
  gap-whites,
  whites-gap,
  gap-first,
  gap-only,
  gap-unended,
  gap-read,
}
use Rattle.number.proofs.Cases.{never}
use Rattle.p6_header.specs.Fields.{field_at}
use Rattle.p6_header.specs.Standing.{DigitsEnd, Field, FieldFailed, no_part, unended, FieldRead}
use Rattle.p6_header.proofs.field.Readings.{field-reads, field-fails}

-- ---- a field that is read

-- a field does not begin with a digit
pub field-first : (s : List ℕ) (a b value : ℕ) → Field s a b value → is_digit (byte_at s a) ≡ false
field-first s a b value f = gap-first s a f.start f.gap

-- it ends behind the place where it begins
pub field-later : (s : List ℕ) (a b value : ℕ) → Field s a b value → a < b
field-later s a b value f = omega (arith, gap-later s a f.start f.gap, f.ends)

-- its gap ends before a digit
field-start : (s : List ℕ) (a b value : ℕ) (f : Field s a b value) → gap_end s a ≡ f.start
field-start s a b value f =
    let digit = all_first is_digit s f.start f.digits f.digit f.some_digit in
    gap-only s a f.start (gap-whites s a f.start f.gap) (digit-not-white _ digit)
    (λ h. never (sym digit ∙ hash-not-digit _ h))

-- a field that stands, with its digits ended, is read
pub field-is-read : (s : List ℕ) (a b value : ℕ) (f : Field s a b value) → DigitsEnd s a b value f
    → field_at s a ≡ number_with value b
field-is-read s a b value f ended =
    let n = f.digits in
    let digits : n ≡ digits_at s f.start =
    span-only is_digit most_digits s f.start n f.few_digits f.digit (λ l. rw (← f.ends) (ended l)) in
    sym (field-reads s a f.start (sym (field-start s a b value f))
    (λ e. omega (arith, gap-later s a f.start f.gap)))
    ∙ sym (number-reads s f.start n value digits (λ e. omega (arith, f.some_digit)) f.is)
    ∙ ap (number_with value) (sym f.ends)

-- ---- a field that fails

-- with no digit there no number is read
no_number : (s : List ℕ) (at : ℕ) → is_digit (byte_at s at) ≡ false → number_at s at ≡ Err at
no_number s at d =
    let none : 0 ≡ digits_at s at =
    span-only is_digit most_digits s at 0 (omega arith) (λ i h. absurd (omega arith))
    (λ l. let y : at + 0 ≡ at = omega arith in rw y d) in
    sym (number-fails s at 0 none refl)

-- a field that fails is not read
pub field-is-failed : (s : List ℕ) (a at : ℕ) → FieldFailed s a at → field_at s a ≡ Err at
field-is-failed s a at (no_part ws w h d) = go (ℕ_discrete at a)
  where
    end : at ≡ gap_end s a
    end = sym (gap-only s a at ws w h)

    go : Dec (at ≡ a) → field_at s a ≡ Err at
    go (yes z) = sym (field-fails s a at end z) ∙ ap {B = Reading} Err (sym z)
    go (no z) =
        sym (field-reads s a at end z) ∙ no_number s at (d (omega (arith, z, whites-later s a at ws)))
field-is-failed s a at (unended from ws u z) =
    let end : at ≡ gap_end s a = z ∙ sym (gap-unended s a from ws u) in
    let later : ¬ (at ≡ a) = λ e. omega (arith, whites-later s a from ws, hash-inside s from u.opens) in
    let past : byte_at s at ≡ 0 = byte_past s at (omega arith) in
    sym (field-reads s a at end later) ∙ no_number s at (ap is_digit past ∙ nothing-digit)

-- ---- what a reading says

-- a reading of a field is one of the two
pub data Told (s : List ℕ) (a : ℕ) : Reading → Type 0 where
  read : (value b : ℕ) → FieldRead s a b value → Told s a (number_with value b)
  failed : (at : ℕ) → FieldFailed s a at → Told s a (Err at)

-- a field that fails is told so
told-failed : (s : List ℕ) (a at : ℕ) → FieldFailed s a at → Told s a (field_at s a)
told-failed s a at f = subst (Told s a) (sym (field-is-failed s a at f)) (failed at f)

-- behind a gap stand digits, and it is read
told-read : (s : List ℕ) (a e : ℕ) → e ≡ gap_end s a → Whites s a e → ¬ (e ≡ a) → ¬ (digits_at s e ≡ 0)
    → Told s a (field_at s a)
told-read s a e end ws later digits =
    let value = decimal (digits_at s e) (λ i. byte_at s (e + i)) in
    let f : Field s a (e + digits_at s e) value = record {
      start = e;
      digits = digits_at s e;
      gap = whites-gap s a e ws (λ z. later (sym z));
      some_digit = omega (arith, digits);
      few_digits = span-at-most is_digit most_digits s e;
      digit = span-all is_digit most_digits s e;
      is = refl;
      ends = refl;
    } in
    subst (Told s a) (number-reads s e (digits_at s e) value refl digits refl ∙ field-reads s a e end later)
    (read value (e + digits_at s e) (record { field = f; ended = span-ends is_digit most_digits s e }))

-- every field is read or failed
pub field_told : (s : List ℕ) (a : ℕ) → Told s a (field_at s a)
field_told s a = by (gap-read s a)
  where
    e : ℕ
    e = gap_end s a

    -- no digit is there
    none-there : digits_at s e ≡ 0 → is_digit (byte_at s e) ≡ false
    none-there z =
        let here : e + digits_at s e ≡ e = omega arith in
        ap (λ i. is_digit (byte_at s i)) (sym here) ∙ span-ends is_digit most_digits s e (omega arith)

    by : GapRead s a (gap_end s a) → Told s a (field_at s a)
    by (open_ended from ws u z) = told-failed s a e (unended from ws u z)
    by (stops ws w h) = go (ℕ_discrete e a) (ℕ_discrete (digits_at s e) 0)
      where
        go : Dec (e ≡ a) → Dec (digits_at s e ≡ 0) → Told s a (field_at s a)
        go (yes z) n = told-failed s a e (no_part ws w h (λ l. absurd (omega arith)))
        go (no z) (yes n) = told-failed s a e (no_part ws w h (λ l. none-there n))
        go (no z) (no n) = told-read s a e refl ws z n
