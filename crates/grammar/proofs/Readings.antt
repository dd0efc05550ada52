-- The ways a number is read: it fails at the place where it begins, or is the value of the digits there.
use Prim.Native.Nat.{ℕ, ◌+◌, ◌-◌, ◌≤◌, ◌<◌}
use mathlib.Core.List.{List}
use mathlib.Core.Path.{◌≡◌, sym, ◌∙◌}
use native.Mathlib.Omega.{arith}
use lib.ListN.{length}
use borrow.Author.Tests.{eq-eqb, ne_eqb}
use Rattle.grammar.specs.Bytes.{byte_at, is_digit}
use Rattle.grammar.specs.Decimals.{decimal}
use Rattle.grammar.specs.Numbers.{most_digits, digits_at, Digits, number_with, number_at}
use Rattle.std.proofs.Common.{Err}
use Rattle.grammar.proofs.Spans.{span-all, digit-inside}

-- the digits that were counted are digits
pub digits-counted : (s : List ℕ) (at n : ℕ) → n ≡ digits_at s at → Digits s at n
digits-counted s at n e = rw e (span-all is_digit most_digits s at)

-- digits stand inside
pub digits-inside : (s : List ℕ) (at n : ℕ) → Digits s at n → 0 < n → at + n ≤ length s
digits-inside s at n all h = omega (arith, digit-inside s (at + (n - 1)) (all (n - 1) (omega arith)))

-- and so do those that were counted
pub counted-inside : (s : List ℕ) (at n : ℕ) → n ≡ digits_at s at → ¬ (n ≡ 0) → at + n ≤ length s
counted-inside s at n e z = digits-inside s at n (digits-counted s at n e) (omega arith)

-- with no digit there the number fails
pub number-fails : (s : List ℕ) (at n : ℕ) → n ≡ digits_at s at → n ≡ 0 → Err at ≡ number_at s at
unfolding number_at
number-fails s at n e z = rw (eq-eqb (digits_at s at) 0 (sym e ∙ z))

-- with digits there it is their value
pub number-reads : (s : List ℕ) (at n value : ℕ) → n ≡ digits_at s at → (n ≡ 0 → ⊥)
    → value ≡ decimal n (λ i. byte_at s (at + i)) → number_with value (at + n) ≡ number_at s at
unfolding number_at
number-reads s at n value e z v = rw (v, ← e, ne_eqb n 0 z)
