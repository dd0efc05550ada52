-- The text of a number: a digit, or the text of its tenth part and a digit; and how long it is.
use Prim.Native.Nat.{ℕ, zero, suc, ◌-◌, ◌/◌, ◌%◌, ◌^◌, ◌≤◌, ◌<◌}
use mathlib.Core.Bool.{Bool, true, false, cond}
use mathlib.Core.List.{[], ◌∷◌, ◌++◌}
use mathlib.Core.Path.{◌≡◌}
use native.Mathlib.Nat.{pow-suc}
use native.Mathlib.Omega.{arith}
use lib.Dec.{ltb}
use lib.ListN.{length, length-append}
use borrow.Author.Tests.{lt-ltb, le-ltb}
use Rattle.grammar.specs.Decimals.{most_decimal, digit_byte, short_text, decimal_text}

-- the text of a digit
pub short-digit : (most n : ℕ) → 1 ≤ most → n < 10 → short_text most n ≡ digit_byte n ∷ []
unfolding short_text
short-digit zero n h l = absurd (omega arith)
short-digit (suc most) n h l = rw (lt-ltb n 10 l)

-- the text of a number of more digits
pub short-more : (most n : ℕ) → 1 ≤ most → 10 ≤ n
    → short_text most n ≡ short_text (most - 1) (n / 10) ++ digit_byte (n % 10) ∷ []
unfolding short_text
short-more zero n h l = absurd (omega arith)
short-more (suc most) n h l =
    let z : suc most - 1 ≡ most = omega arith in
    rw (le-ltb n 10 l, z)

-- a number of more than one digit has room for them
pub more_room : (most n : ℕ) → n < 10 ^ most → 10 ≤ n → 2 ≤ most
more_room zero n h l = absurd (omega arith)
more_room (suc zero) n h l = absurd (omega arith)
more_room (suc (suc most)) n h l = omega arith

-- the tenth part of a number has a digit less
pub tenth-below : (most n : ℕ) → n < 10 ^ most → 1 ≤ most → n / 10 < 10 ^ (most - 1)
tenth-below zero n h l = absurd (omega arith)
tenth-below (suc most) n h l =
    let z : suc most - 1 ≡ most = omega arith in
    rw z (omega (arith, pow-suc 10 most))

-- at most as many bytes as digits are allowed
pub short-most : (most n : ℕ) → length (short_text most n) ≤ most
unfolding short_text
short-most zero n = omega arith
short-most (suc most) n = go (ltb n 10) (short-most most (n / 10))
  where
    go : (t : Bool) → length (short_text most (n / 10)) ≤ most
        → length (cond t (digit_byte n ∷ []) (short_text most (n / 10) ++ digit_byte (n % 10) ∷ [])) ≤ suc most
    go true h = omega arith
    go false h = rw (length-append (short_text most (n / 10)) (digit_byte (n % 10) ∷ [])) (omega arith)

-- at least one byte
pub short-some : (most n : ℕ) → 1 ≤ most → 1 ≤ length (short_text most n)
unfolding short_text
short-some zero n h = absurd (omega arith)
short-some (suc most) n h = go (ltb n 10)
  where
    go : (t : Bool)
        → 1 ≤ length (cond t (digit_byte n ∷ []) (short_text most (n / 10) ++ digit_byte (n % 10) ∷ []))
    go true = omega arith
    go false = rw (length-append (short_text most (n / 10)) (digit_byte (n % 10) ∷ [])) (omega arith)

-- at most 20 bytes for a number of 64 bits
pub decimal-length : (n : ℕ) → length (decimal_text n) ≤ most_decimal
decimal-length n = short-most most_decimal n
