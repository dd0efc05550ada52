-- When a listing is refused: the count line, the length, the picture's tests, the run's, and the mapping's.
use Rattle.std.specs.Prelude.{ℕ, ◌+◌, ◌≤◌, Bool, not, ◌&&◌, List, ◌∷◌, ◌++◌, ◌≡◌, ltb, leb, eqb, length, drop}
use Rattle.refusal.specs.{Row, row, BadCount, BadSize}
use Rattle.grammar.specs.{byte_at, line_feed, decimal, digits_at, Digits}
use Rattle.listing_test.specs.{small_rows}
use Rattle.listing_work.specs.{work_tests}

-- the most bytes of an input
abbrev pub most_input : ℕ
most_input = 65536

-- ---- the count line

-- it is malformed: anything but 1 or 2 digits and LF
abbrev pub bad_line : List ℕ → Bool
bad_line s = not (leb 1 (digits_at s 0) && (leb (digits_at s 0) 2 && eqb (byte_at s (digits_at s 0)) line_feed))

-- the input begins with one: 1 or 2 digits, and LF
pub record CountLine (s : List ℕ) : Type 0 where
  pub digits : ℕ
  pub some : 1 ≤ digits
  pub few : digits ≤ 2
  pub are : Digits s 0 digits
  pub ended : byte_at s digits ≡ line_feed

-- the shade count that it names
abbrev pub count_in : List ℕ → ℕ
count_in s = decimal (digits_at s 0) (λ i. byte_at s (0 + i))

-- the picture behind it
abbrev pub picture_in : List ℕ → List ℕ
picture_in s = drop (digits_at s 0 + 1) s

-- ---- the tests

-- an input over 65,536 bytes
abbrev pub long_input : List ℕ → Bool
long_input s = ltb most_input (length s)

-- the tests before the run, in their order
abbrev pub input_rows : List ℕ → List Row
input_rows s = row (bad_line s) BadCount ∷ row (long_input s) BadSize ∷ small_rows (picture_in s)

-- all tests: those before the run, the run's, and then the mapping's
abbrev pub listing_rows : List ℕ → List Row
listing_rows s = input_rows s ++ work_tests (picture_in s) (count_in s)
