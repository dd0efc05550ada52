-- Laws of decimal values: one digit more, a bound by the count of digits, and digits that agree.
use Prim.Native.Nat.{ℕ, zero, suc, ◌+◌, ◌-◌, ◌*◌, ◌^◌, ◌≤◌, ◌<◌}
use mathlib.Core.Bool.{true}
use mathlib.Core.Path.{◌≡◌, refl}
use native.Mathlib.Omega.{arith}
use native.Mathlib.Nat.{pow-suc, pow-le-pow_right}
use native.Mathlib.Numerals.{add-one}
use lib.Dec.{leb}
use borrow.Author.Tests.{leb-true}
use Rattle.number.proofs.Cases.{both}
use Rattle.grammar.specs.Bytes.{is_digit}
use Rattle.grammar.specs.Decimals.{decimal}
use Rattle.grammar.specs.Numbers.{most_digits}

-- a digit is a byte from 48 to 57
pub digit-range : (b : ℕ) → is_digit b ≡ true → (48 ≤ b) × (b ≤ 57)
unfolding is_digit
digit-range b h =
    let t = both (leb 48 b) (leb b 57) h in
    (leb-true 48 b t.0, leb-true b 57 t.1)

-- the value of no digits
pub decimal-start : (f : ℕ → ℕ) → decimal 0 f ≡ 0
unfolding decimal
decimal-start f = refl

-- the value of one digit more
pub decimal-more : (n : ℕ) (f : ℕ → ℕ) → decimal (n + 1) f ≡ 10 * decimal n f + (f n - 48)
unfolding decimal
decimal-more n f = rw (add-one n) refl

-- the value of n digits is below 10 to the n
decimal-below : (n : ℕ) (f : ℕ → ℕ) → ((i : ℕ) → i < n → is_digit (f i) ≡ true) → decimal n f < 10 ^ n
unfolding decimal
decimal-below zero f all = omega arith
decimal-below (suc n) f all =
    omega (
      arith,
      pow-suc 10 n,
      decimal-below n f (λ i h. all i (omega arith)),
      (digit-range (f n) (all n (omega arith))).1,
    )

-- the value of at most five digits is at most 99999
pub decimal-at-most : (n : ℕ) (f : ℕ → ℕ) → ((i : ℕ) → i < n → is_digit (f i) ≡ true) → n ≤ most_digits
    → decimal n f ≤ 99999
decimal-at-most n f all h =
    let p : 10 ^ n ≤ 10 ^ 5 = pow-le-pow_right {n = 10} (omega arith) h in
    omega (arith, decimal-below n f all, p)

-- digits that agree have one value
pub decimal-same : (n : ℕ) (f g : ℕ → ℕ) → ((i : ℕ) → i < n → f i ≡ g i) → decimal n f ≡ decimal n g
unfolding decimal
decimal-same zero f g e = refl
decimal-same (suc n) f g e = rw (decimal-same n f g (λ i h. e i (omega arith)), e n (omega arith)) refl
