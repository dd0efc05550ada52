-- The digits that are read: a part of the input, few enough that the value of those read so far fits.
use Rattle.std.proofs.Common.{◌≡◌, ℕ, ◌+◌, ◌-◌, ◌≤◌, ◌<◌, true, List, length, take, drop, ap, ◌∙◌, arith}
use Rattle.std.proofs.lemmas.List.{get_or-take, get_or-drop, length-take-le, length-drop}
use Rattle.grammar.specs.Bytes.{byte_at, is_digit}
use Rattle.grammar.specs.Decimals.{decimal}
use Rattle.grammar.specs.Numbers.{most_digits, Digits}
use Rattle.grammar.proofs.Decimals.{decimal-at-most, decimal-same}

-- the value of the first i of some digits, at most five, is at most 99999
pub value-few : (digits : List ℕ) (i value : ℕ)
    → ((j : ℕ) → j < length digits → is_digit (byte_at digits j) ≡ true) → length digits ≤ most_digits
    → i ≤ length digits → value ≡ decimal i (byte_at digits) → value ≤ 99999
value-few digits i value all few within e =
    omega (arith, e, decimal-at-most i (byte_at digits) (λ j h. all j (omega arith)) (omega arith))

module _ (s : List ℕ) (at n : ℕ) where
  -- the n bytes from `at` on
  abbrev part : List ℕ
  part = take (at + n - at) (drop at s)

  -- each stands in the input
  pub part_at : (i : ℕ) → i < n → byte_at (take (at + n - at) (drop at s)) i ≡ byte_at s (at + i)
  part_at i h = get_or-take (at + n - at) (drop at s) i 0 (omega arith) ∙ get_or-drop at s i 0

  -- they are n where so many are there
  pub part-length : at + n ≤ length s → length (take (at + n - at) (drop at s)) ≡ n
  part-length h =
      length-take-le (at + n - at) (drop at s) (omega (arith, length-drop at s)) ∙ (omega arith)

  -- they are digits
  pub part-digits : Digits s at n → at + n ≤ length s → (i : ℕ)
      → i < length (take (at + n - at) (drop at s)) → is_digit (byte_at (take (at + n - at) (drop at s)) i) ≡ true
  part-digits all h i l =
      let m : i < n = omega (arith, part-length h) in
      ap is_digit (part_at i m) ∙ all i m

  -- and have their value
  pub part-value : at + n ≤ length s
      → decimal (length (take (at + n - at) (drop at s))) (byte_at (take (at + n - at) (drop at s)))
      ≡ decimal n (λ i. byte_at s (at + i))
  part-value h = rw (part-length h) (decimal-same n _ _ part_at)
