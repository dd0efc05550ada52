-- A number at a place of an input: 1 to 5 decimal digits, leading zeros allowed.
use Rattle.std.specs.Prelude.{ℕ, ◌+◌, cond, List, eqb, Result, Ok, Err}
use Rattle.grammar.specs.Bytes.{byte_at, is_digit}
use Rattle.grammar.specs.Spans.{span_at, AllOf}
use Rattle.grammar.specs.Decimals.{decimal}
use Rattle.grammar.specs.declared.Numeral.{Numeral}

-- the most digits of a number that is read
abbrev pub most_digits : ℕ
most_digits = 5

-- the digits from `at` on, at most five
abbrev pub digits_at : List ℕ → ℕ → ℕ
digits_at input at = span_at is_digit most_digits input at

-- the first `count` bytes from `at` on are digits
abbrev pub Digits : List ℕ → ℕ → ℕ → Type 0
Digits input at count = AllOf is_digit input at count

-- what reading a number yields: the number and where it ended, or the place it failed
abbrev pub Reading : Type 0
Reading = Result Numeral ℕ

-- a number that was read, with this value, and ended here
abbrev pub number_with : ℕ → ℕ → Reading
number_with value next = Ok (record { value = value; next = next })

-- the number from `at` on, and where it ended; with no digit there it fails at `at`
unfoldable pub number_at : List ℕ → ℕ → Reading
number_at input at =
    cond (eqb (digits_at input at) 0) (Err at)
    (number_with (decimal (digits_at input at) (λ i. byte_at input (at + i))) (at + digits_at input at))

-- where a reading ended or failed
abbrev pub place_in : Reading → ℕ
place_in (Ok number) = number.next
place_in (Err at) = at
