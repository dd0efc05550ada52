-- The text of a number: its value, its digits, and its first digit.
use Prim.Native.Nat.{ℕ, zero, suc, ◌+◌, ◌-◌, ◌*◌, ◌/◌, ◌%◌, ◌^◌, ◌≤◌, ◌<◌}
use mathlib.Core.Bool.{true}
use mathlib.Core.List.{List, [], ◌∷◌, ◌++◌}
use mathlib.Core.Logic.{⊎_elim}
use mathlib.Core.Path.{◌≡◌, sym, ap, ◌∙◌}
use native.Mathlib.Decide.{dec_lt}
use native.Mathlib.Omega.{arith}
use lib.ListN.{length, get_or, length-append, get_or-append}
use lib.Seq.{get_or-append_seam}
use borrow.Author.Tests.{le-leb}
use Rattle.number.proofs.Searches.{below-or-last}
use Rattle.grammar.specs.Bytes.{digit_zero, is_digit}
use Rattle.grammar.specs.Decimals.{decimal, digit_byte, short_text}
use Rattle.grammar.proofs.Decimals.{decimal-start, decimal-more, decimal-same}
use Rattle.grammar.proofs.Texts.{short-digit, short-more, short-some, more_room, tenth-below}

-- the value of the digits of a text
abbrev value_of : List ℕ → ℕ
value_of t = decimal (length t) (λ i. get_or t i 0)

-- every byte of a text is a digit
abbrev AllDigits : List ℕ → Type 0
AllDigits t = (i : ℕ) → i < length t → is_digit (get_or t i 0) ≡ true

-- ---- one digit more

-- the value of a text with one digit more
value-last : (t : List ℕ) (b : ℕ) → value_of (t ++ b ∷ []) ≡ 10 * value_of t + (b - digit_zero)
value-last t b =
    let f : ℕ → ℕ = λ i. get_or (t ++ b ∷ []) i 0 in
    let n : length (t ++ b ∷ []) ≡ length t + 1 = length-append t (b ∷ []) in
    rw (n, decimal-more (length t) f, get_or-append_seam t b [] 0)
    (ap (λ v. 10 * v + (b - digit_zero))
    (decimal-same (length t) f (λ i. get_or t i 0) (λ i h. get_or-append t (b ∷ []) 0 i h)))

-- digits and one digit more are digits
digits_last : (t : List ℕ) (b : ℕ) → AllDigits t → is_digit b ≡ true → AllDigits (t ++ b ∷ [])
digits_last t b all h i l =
    ⊎_elim
    (λ g. rw (get_or-append t (b ∷ []) 0 i g) (all i g))
    (λ e. ap (λ k. is_digit (get_or (t ++ b ∷ []) k 0)) e ∙ ap is_digit (get_or-append_seam t b [] 0) ∙ h)
    (below-or-last (length t) i (omega (arith, length-append t (b ∷ []))))

-- the byte of a digit is one
digit-byte : (d : ℕ) → d < 10 → is_digit (digit_byte d) ≡ true
unfolding is_digit
digit-byte d h =
    let low : 48 ≤ 48 + d = omega arith in
    let high : 48 + d ≤ 57 = omega arith in
    rw (le-leb 48 (48 + d) low, le-leb (48 + d) 57 high)

-- ---- the text of a number

-- the text of one place more: a digit, or the text of the tenth part and a digit
data Shape (most n : ℕ) : Type 0 where
  digit : n < 10 → short_text (suc most) n ≡ digit_byte n ∷ [] → Shape most n
  more : 10 ≤ n → 1 ≤ most → n / 10 < 10 ^ most
      → short_text (suc most) n ≡ short_text most (n / 10) ++ digit_byte (n % 10) ∷ [] → Shape most n

-- one of the two holds
shape : (most n : ℕ) → n < 10 ^ suc most → Shape most n
shape most n h = elim (dec_lt n 10) [
  | yes g ↦ digit g (short-digit (suc most) n (omega arith) g)
  | no g ↦
      let z : suc most - 1 ≡ most = omega arith in
      more (omega arith) (omega (arith, more_room (suc most) n h (omega arith)))
      (rw z at (tenth-below (suc most) n h (omega arith)))
      (rw z at (short-more (suc most) n (omega arith) (omega arith)))
]

-- its value is the number
pub text-value : (most n : ℕ) → n < 10 ^ most → value_of (short_text most n) ≡ n
unfolding short_text
text-value zero n h = omega (arith, decimal-start (λ i. get_or [] i 0))
text-value (suc most) n h = elim (shape most n h) [
  | digit g e ↦ ap value_of e ∙ omega (arith, value-last [] (digit_byte n), decimal-start (λ i. get_or [] i 0))
  | more g l t e ↦
      ap value_of e
      ∙ omega (arith, value-last (short_text most (n / 10)) (digit_byte (n % 10)), text-value most (n / 10) t)
]

-- so numbers of one text are one number
pub text-only : (most a b : ℕ) → a < 10 ^ most → b < 10 ^ most → short_text most a ≡ short_text most b → a ≡ b
text-only most a b h l e = sym (text-value most a h) ∙ ap value_of e ∙ text-value most b l

-- its bytes are digits
pub text-digits : (most n : ℕ) → n < 10 ^ most → AllDigits (short_text most n)
unfolding short_text
text-digits zero n h = λ i l. absurd (omega arith)
text-digits (suc most) n h = elim (shape most n h) [
  | digit g e ↦ rw e (digits_last [] (digit_byte n) (λ i l. absurd (omega arith)) (digit-byte n g))
  | more g l t e ↦
      rw e
      (digits_last (short_text most (n / 10)) (digit_byte (n % 10)) (text-digits most (n / 10) t)
      (digit-byte (n % 10) (omega arith)))
]

-- the first is one, of whatever number
pub text-begins : (most n : ℕ) → 1 ≤ most → is_digit (get_or (short_text most n) 0 0) ≡ true
unfolding short_text
text-begins zero n h = absurd (omega arith)
text-begins (suc most) n h = elim (dec_lt n 10) [
  | yes g ↦ rw (short-digit (suc most) n h g) (digit-byte n g)
  | no g ↦ rw (short-more (suc most) n h (omega arith)) (go most (text-begins most (n / 10)))
]
  where
    go : (k : ℕ) → (1 ≤ k → is_digit (get_or (short_text k (n / 10)) 0 0) ≡ true)
        → is_digit (get_or (short_text (suc k - 1) (n / 10) ++ digit_byte (n % 10) ∷ []) 0 0) ≡ true
    go zero f = digit-byte (n % 10) (omega arith)
    go (suc k) f =
        let z : suc (suc k) - 1 ≡ suc k = omega arith in
        let some = short-some (suc k) (n / 10) (omega arith) in
        rw (z, get_or-append (short_text (suc k) (n / 10)) (digit_byte (n % 10) ∷ []) 0 0 some) (f (omega arith))

-- a number above 0 does not begin with the digit 0
first-digit : (most n : ℕ) → n < 10 ^ most → 1 ≤ n → get_or (short_text most n) 0 0 ≡ digit_zero → ⊥
first-digit zero n h l z = omega arith
first-digit (suc most) n h l z = elim (shape most n h) [
  | digit g e ↦ omega (arith, rw e at z)
  | more g l t e ↦
      let s = short_text most (n / 10) in
      first-digit most (n / 10) t (omega arith)
      (sym (get_or-append s (digit_byte (n % 10) ∷ []) 0 0 (short-some most (n / 10) l)) ∙ (rw e at z))
]

-- a text of more than one byte does not begin with the digit 0
pub text-no-leading-zero : (most n : ℕ) → n < 10 ^ most → 1 < length (short_text most n)
    → get_or (short_text most n) 0 0 ≡ digit_zero → ⊥
unfolding short_text
text-no-leading-zero zero n h l z = omega arith
text-no-leading-zero (suc most) n h l z = elim (shape most n h) [
  | digit g e ↦ omega (arith, ap length e)
  | more g l t e ↦ first-digit (suc most) n h (omega arith) z
]
