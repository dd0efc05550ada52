-- Rounding a fraction to the nearest multiple of a unit: no other multiple is nearer. Whole numbers only.
use Prim.Native.Nat.{
  ℕ,
  suc,
  ◌+◌,
  ◌*◌,
  ◌/◌,
  ◌%◌,
  ◌≤◌,
  ◌<◌,
  compare,
  Ordering,
}
use mathlib.Core.Bool.{not}
use mathlib.Core.Logic.{◌⊎◌, inl, inr}
use mathlib.Core.Path.{◌≡◌, subst}
use native.Mathlib.Decide.{dec_le}
use native.Mathlib.Nat.{mul-le-mul_right, div-add-mod', mod-lt}
use native.Mathlib.Omega.{arith}
use lib.Arith.{lt_of_le-ne}
use lib.Dec.{T, is_le, compare_is_eq, eqb, leb→le, nleb→lt, eqb→eq, eqb_refl}
use lib.Ieee.{nearest}
use lib.Ieee.Nearest.{closest}
use Rattle.number.specs.{gap}

-- ---- what a comparison says

-- the order that it names
abbrev Named : Ordering → ℕ → ℕ → Type 0
Named Ordering.lt a b = a < b
Named Ordering.eq a b = a ≡ b
Named Ordering.gt a b = b < a

-- is the order of the two numbers
named : (a b : ℕ) → Named (compare a b) a b
named a b =
    go (compare a b) (leb→le a b) (nleb→lt a b) (eqb→eq a b) (λ (e : a ≡ b). subst (λ x. T (eqb a x)) e (eqb_refl a))
  where
    go : (o : Ordering) → (T (is_le o) → a ≤ b) → (T (not (is_le o)) → b < a) → (T (compare_is_eq o) → a ≡ b)
        → (a ≡ b → T (compare_is_eq o)) → Named o a b
    go Ordering.lt h k e n = lt_of_le-ne (h tt) n
    go Ordering.eq h k e n = e tt
    go Ordering.gt h k e n = k tt

-- ---- the multiples of b beside w * b + r, where r is below b

module _ (w r b t : ℕ) (below : r < b) where
  -- every multiple is w * b at most or (w + 1) * b at least
  apart : (t * b ≤ w * b) ⊎ (w * b + b ≤ t * b)
  apart = elim (dec_le t w) [
    | yes l ↦ inl (mul-le-mul_right b l)
    | no l ↦
        let more : suc w ≤ t = omega arith in
        inr (omega (arith, mul-le-mul_right b more))
  ]

  -- up to a half the lower one is as near as any
  lower-near : r * 2 ≤ b → gap (w * b) (w * b + r) ≤ gap (t * b) (w * b + r)
  lower-near half = elim apart [
    | inl l ↦ omega arith
    | inr l ↦ omega arith
  ]

  -- from a half on the upper one is
  upper-near : b ≤ r * 2 → gap (suc w * b) (w * b + r) ≤ gap (t * b) (w * b + r)
  upper-near half =
      let up : suc w * b ≡ w * b + b = omega arith in
      elim apart [
        | inl l ↦ omega (arith, up)
        | inr l ↦ omega (arith, up)
      ]

  -- the one that is chosen is as near as any; at a half either is
  chosen-near : (o : Ordering) → Named o (r * 2) b → gap (nearest w o * b) (w * b + r) ≤ gap (t * b) (w * b + r)
  chosen-near Ordering.lt h = lower-near (omega arith)
  chosen-near Ordering.gt h = upper-near (omega arith)
  chosen-near Ordering.eq h = elim (dec_le (w % 2) 0) [
    | yes l ↦
        let even : w + w % 2 ≡ w = omega arith in
        rw even (lower-near (omega arith))
    | no l ↦
        let odd : w + w % 2 ≡ suc w = omega arith in
        rw odd (upper-near (omega arith))
  ]

-- the multiple of b that a is rounded to is as near to a as any
pub closest-near : (a b t : ℕ) → 0 < b → gap (closest a b * b) a ≤ gap (t * b) a
closest-near a b t some =
    let split : a / b * b + a % b ≡ a = div-add-mod' a b in
    subst (λ x. gap (closest a b * b) x ≤ gap (t * b) x) split
    (chosen-near (a / b) (a % b) b t (mod-lt a some) (compare (a % b * 2) b) (named (a % b * 2) b))
