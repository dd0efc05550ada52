-- The count line at the front of an input, exactly what it is, and the picture behind it.
use Prim.Native.Nat.{ℕ, ◌+◌, ◌-◌, ◌≤◌, ◌<◌}
use mathlib.Core.Bool.{Bool, true, false, not, ◌&&◌}
use mathlib.Core.List.{List}
use mathlib.Core.Logic.{◌↔◌, ◌⊎◌, inl, inr}
use mathlib.Core.Path.{◌≡◌, refl, sym, ap, ◌∙◌}
use native.Mathlib.Decide.{ℕ_discrete}
use native.Mathlib.Omega.{arith}
use lib.Dec.{leb, eqb}
use lib.ListN.{length, get_or, take, drop, length-drop}
use lib.Seq.{take_all}
use borrow.Author.Tests.{lt-leb, le-leb, leb-true, eq-eqb, ne_eqb, eqb-true, not-false}
use Rattle.number.proofs.Cases.{both}
use Rattle.grammar.specs.{byte_at, line_feed, is_digit, most_digits, digits_at, number_with, number_at, place_in}
use Rattle.std.proofs.Common.{Err}
use Rattle.grammar.proofs.Spans.{span-all, span-only}
use Rattle.p6_header.specs.{reading_number, reading_values}
use Rattle.listing.specs.Refusals.{most_input, bad_line, CountLine, count_in, picture_in}

-- ---- its number

-- with no digit it is malformed
line-none : (s : List ℕ) → digits_at s 0 ≡ 0 → bad_line s ≡ true
line-none s z = rw (lt-leb 1 (digits_at s 0) (omega arith))

-- a number at its front, by how many digits there are
front : (s : List ℕ) → ((digits_at s 0 ≡ 0) × (number_at s 0 ≡ Err 0))
    ⊎ ((0 < digits_at s 0) × (number_at s 0 ≡ number_with (count_in s) (0 + digits_at s 0)))
unfolding number_at
front s = elim (ℕ_discrete (digits_at s 0) 0) [
  | yes z ↦ inl (z, rw (eq-eqb _ _ z))
  | no z ↦ inr (omega (arith, z), rw (ne_eqb _ _ z))
]

-- a reading that failed is none of a number
failed-not-number : (at v n : ℕ) → ¬ (Err at ≡ number_with v n)
failed-not-number at v n e = let z = ap reading_number e in omega arith

-- a line whose reading failed has no digit
pub line-no-digit : (s : List ℕ) (at : ℕ) → number_at s 0 ≡ Err at → bad_line s ≡ true
line-no-digit s at e = elim (front s) [
  | inl f ↦ line-none s f.0
  | inr f ↦ absurd (failed-not-number at _ _ (sym e ∙ f.1))
]

-- three tests of which the last fails do not all hold
last-fails : (a b : Bool) → not (a && (b && false)) ≡ true
last-fails true true = refl
last-fails true false = refl
last-fails false b = refl

-- ---- exactly

-- LF is no digit
feed-not-digit : is_digit line_feed ≡ false
unfolding is_digit
feed-not-digit = refl

-- digits and LF are all digits that stand there
line-digits : (s : List ℕ) (l : CountLine s) → l.digits ≡ digits_at s 0
line-digits s l =
    let z : 0 + l.digits ≡ l.digits = omega arith in
    span-only is_digit most_digits s 0 l.digits (omega (arith, l.few)) l.are
    (λ h. ap (λ n. is_digit (byte_at s n)) z ∙ ap is_digit l.ended ∙ feed-not-digit)

-- a count line is malformed exactly unless it has 1 or 2 digits, and LF behind them
pub bad-line-exactly : (s : List ℕ) → (bad_line s ≡ false) ↔ CountLine s
bad-line-exactly s = (
  λ e.
      let n = digits_at s 0 in
      let t = both (leb 1 n) (leb n 2 && eqb (byte_at s n) line_feed) (not-false _ e) in
      let u = both (leb n 2) (eqb (byte_at s n) line_feed) t.1 in
      record {
        digits = n;
        some = leb-true 1 n t.0;
        few = leb-true n 2 u.0;
        are = span-all is_digit most_digits s 0;
        ended = eqb-true (byte_at s n) line_feed u.1;
      },
  λ l.
      rw (
        ← line-digits s l,
        le-leb 1 l.digits l.some,
        le-leb l.digits 2 l.few,
        eq-eqb _ _ l.ended,
      ),
)

-- ---- a number that is read

-- the count line names this value with so many digits
pub record Named (s : List ℕ) (value n : ℕ) : Type 0 where
  pub number : number_at s 0 ≡ number_with value n

module _ {s : List ℕ} {value n : ℕ} (named : Named s value n) where
  -- they are its digits, and their value
  line-number : (0 < n) × (n ≡ digits_at s 0) × (value ≡ count_in s)
  line-number = elim (front s) [
    | inl f ↦ absurd (failed-not-number 0 value n (sym f.1 ∙ named.number))
    | inr f ↦
        let same : number_with value n ≡ number_with (count_in s) (0 + digits_at s 0) = sym named.number ∙ f.1 in
        let ends : n ≡ 0 + digits_at s 0 = ap place_in same in
        (omega (arith, f.0), omega arith, ap (λ r. get_or (reading_values r) 0 0) same)
  ]

  -- three digits or more are malformed
  pub line-long : 2 < n → bad_line s ≡ true
  line-long h =
      let some : 1 ≤ digits_at s 0 = omega (arith, line-number.1) in
      let many : 2 < digits_at s 0 = omega (arith, line-number.1) in
      rw (le-leb 1 (digits_at s 0) some, lt-leb (digits_at s 0) 2 many)

  -- and so is a line that does not end with LF
  pub line-not-ended : ¬ (byte_at s n ≡ line_feed) → bad_line s ≡ true
  line-not-ended h =
      let c : ¬ (byte_at s (digits_at s 0) ≡ line_feed) = λ f. h (ap (byte_at s) line-number.1 ∙ f) in
      rw (ne_eqb _ _ c) (last-fails (leb 1 (digits_at s 0)) (leb (digits_at s 0) 2))

  -- one or two digits and LF are a count line
  pub line-good : n ≤ 2 → byte_at s n ≡ line_feed → bad_line s ≡ false
  line-good few ended =
      let a : 1 ≤ digits_at s 0 = omega (arith, line-number.0, line-number.1) in
      let b : digits_at s 0 ≤ 2 = omega (arith, line-number.1) in
      let c : byte_at s (digits_at s 0) ≡ line_feed = ap (byte_at s) (sym line-number.1) ∙ ended in
      rw (le-leb 1 (digits_at s 0) a, le-leb (digits_at s 0) 2 b, eq-eqb _ _ c)

  -- the count is what it names
  pub count-is : value ≡ count_in s
  count-is = line-number.2

  -- and the picture what stands behind it
  pub picture-is : take (length s - (n + 1)) (drop (n + 1) s) ≡ picture_in s
  picture-is =
      take_all (length s - (n + 1)) (drop (n + 1) s) (omega (arith, length-drop (n + 1) s))
      ∙ ap (λ k. drop (k + 1) s) line-number.1

-- the count line is read: so many digits, LF behind them, and an input that is not too long
pub record Line (s : List ℕ) (value n : ℕ) : Type 0 where
  pub named : Named s value n
  pub few : n ≤ 2
  pub ended : byte_at s n ≡ line_feed
  pub short : length s ≤ most_input
