-- Laws of single bytes: white bytes, `#` and the ends of comments stand inside the input, and none of the first two is
-- a digit.
use Prim.Native.Nat.{ℕ, ◌<◌}
use mathlib.Core.Bool.{Bool, true, false}
use mathlib.Core.List.{List}
use mathlib.Core.Logic.{inl, inr}
use mathlib.Core.Path.{◌≡◌, refl, sym, ap, ◌∙◌}
use native.Mathlib.Omega.{arith}
use lib.Dec.{eqb}
use lib.ListN.{length}
use borrow.Author.Tests.{eq-eqb, ne_eqb, not-true}
use Rattle.number.proofs.Cases.{bool, never}
use Rattle.grammar.specs.{byte_at, is_digit}
use Rattle.grammar.proofs.Spans.{kind-inside}
use Rattle.grammar.proofs.Decimals.{digit-range}
use Rattle.p6_gap.specs.Bytes.{is_white, hash, ends_comment, is_text}

-- ---- past the end stands 0, which is of no kind

-- 0 is not white
pub nothing-white : is_white 0 ≡ false
unfolding is_white
nothing-white = refl

-- 0 ends no comment
pub nothing_ends : ends_comment 0 ≡ false
unfolding ends_comment
nothing_ends = refl

-- a byte of text does not end a comment
pub text-not-end : (b : ℕ) → is_text b ≡ true → ends_comment b ≡ false
text-not-end b = not-true (ends_comment b)

-- a white byte stands inside
pub white-inside : (s : List ℕ) (i : ℕ) → is_white (byte_at s i) ≡ true → i < length s
white-inside = kind-inside is_white nothing-white

-- so does a byte that ends a comment
pub end-inside : (s : List ℕ) (i : ℕ) → ends_comment (byte_at s i) ≡ true → i < length s
end-inside = kind-inside ends_comment nothing_ends

-- and one that opens a comment
pub hash-inside : (s : List ℕ) (i : ℕ) → byte_at s i ≡ hash → i < length s
hash-inside s i e = kind-inside (λ b. eqb b hash) refl s i (eq-eqb _ _ e)

-- whether a byte is white, once it was read and tried
pub white-is : (s : List ℕ) (at x : ℕ) (u t : Bool) → x ≡ byte_at s at → u ≡ is_white x → u ≡ t
    → is_white (byte_at s at) ≡ t
white-is s at x u t e f g = ap is_white (sym e) ∙ sym f ∙ g

-- ---- digits are of no other kind

-- a digit is not white
pub digit-not-white : (b : ℕ) → is_digit b ≡ true → is_white b ≡ false
unfolding is_white
digit-not-white b h =
    let low = (digit-range b h).0 in
    simp (
      ne_eqb b 32 (λ e. omega arith),
      ne_eqb b 9 (λ e. omega arith),
      ne_eqb b 13 (λ e. omega arith),
      ne_eqb b 10 (λ e. omega arith),
    )

-- a white byte is no digit
pub white-not-digit : (b : ℕ) → is_white b ≡ true → is_digit b ≡ false
white-not-digit b h = elim (bool (is_digit b)) [
  | inl d ↦ never (sym h ∙ digit-not-white b d)
  | inr d ↦ d
]

-- nor is `#`
pub hash-not-digit : (b : ℕ) → b ≡ hash → is_digit b ≡ false
unfolding is_digit
hash-not-digit b e = ap is_digit e

-- which is not white
pub hash-not-white : (b : ℕ) → b ≡ hash → is_white b ≡ false
unfolding is_white
hash-not-white b e = ap is_white e
