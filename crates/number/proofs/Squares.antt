-- Laws of `sq`. `sq-law` says what a square is with no difference in it; the others list it at the right places,
-- and `omega` multiplies the products out. And the gap as a difference with a sign.
use mathlib.Core.Bool.{Bool, true, false, cond}
use mathlib.Core.Path.{◌≡◌, refl}
use Prim.Native.Nat.{ℕ, zero, suc, ◌+◌, ◌-◌, ◌*◌, ◌≤◌}
use native.Mathlib.Decide.{dec_le}
use native.Mathlib.Nat.{mul-le-mul}
use native.Mathlib.Omega.{arith}
use lib.Dec.{ltb}
use lib.IntN.{pos, negsuc, nat_abs, ◌-ℤ◌}
use borrow.Author.Tests.{ltb-true, ltb-false}
use Rattle.number.specs.Square.{gap, sq}

-- the square of a difference d from a up to b
square-of-gap : (a b d : ℕ) → d + a ≡ b → d * d + 2 * (a * b) ≡ a * a + b * b
square-of-gap a b d e = rw (← e) (omega arith)

-- the squared difference and twice the product come to the two squares
pub sq-law : (a b : ℕ) → sq a b + 2 * (a * b) ≡ a * a + b * b
unfolding sq
sq-law a b =
    elim (dec_le a b) [
      | yes h ↦ square-of-gap a b (gap a b) (omega arith)
      | no h ↦ omega (arith, square-of-gap b a (gap a b) (omega arith))
    ]

-- the squared difference is the same either way round
pub sq-sym : (a b : ℕ) → sq a b ≡ sq b a
sq-sym a b = omega (arith, sq-law a b, sq-law b a)

-- a number is at most its square
square-at-least : (n : ℕ) → n ≤ n * n
square-at-least zero = omega arith
square-at-least (suc n) = omega arith

-- two numbers whose squared difference is 0 are equal
pub sq-zero : (a b : ℕ) → sq a b ≡ 0 → a ≡ b
unfolding sq
sq-zero a b h = omega (arith, square-at-least (gap a b))

-- a number has the squared difference 0 from itself
pub sq-self : (a : ℕ) → sq a a ≡ 0
sq-self a = omega (arith, sq-law a a)

-- a squared difference is at most twice the two by way of x; what is left over is the square of a + b and 2 * x
pub sq-halves : (a b x : ℕ) → sq a b ≤ 2 * sq x a + 2 * sq x b
sq-halves a b x = omega (arith, sq-law a b, sq-law x a, sq-law x b, sq-law (a + b) (2 * x))

-- the squared difference of two numbers that are at most m is at most m²
pub sq-most : (a b m : ℕ) → a ≤ m → b ≤ m → sq a b ≤ m * m
unfolding sq
sq-most a b m h k = let near : gap a b ≤ m = omega arith in mul-le-mul near near

-- ---- whole numbers with a sign

-- the difference of two numbers is their gap, with or without a sign
pub difference-is-gap : (a b : ℕ) → nat_abs (pos a -ℤ pos b) ≡ gap a b
difference-is-gap a zero = omega arith
difference-is-gap a (suc b) = go (ltb a (suc b)) refl
  where
    go : (t : Bool) → ltb a (suc b) ≡ t
        → nat_abs (cond t (negsuc (suc b - suc a)) (pos (a - suc b))) ≡ gap a (suc b)
    go true e = let h = ltb-true a (suc b) e in omega arith
    go false e = let h = ltb-false a (suc b) e in omega arith
