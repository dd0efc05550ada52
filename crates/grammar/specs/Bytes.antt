-- A byte of an input, bytes by name, and the decimal digits.
use Rattle.std.specs.Prelude.{ℕ, Bool, ◌&&◌, List, leb, get_or}

-- the byte at a place; past the end stands 0
abbrev pub byte_at : List ℕ → ℕ → ℕ
byte_at input at = get_or input at 0

-- the blank
abbrev pub blank : ℕ
blank = 32

-- TAB
abbrev pub tab : ℕ
tab = 9

-- CR
abbrev pub carriage_return : ℕ
carriage_return = 13

-- LF
abbrev pub line_feed : ℕ
line_feed = 10

-- the digit 0
abbrev pub digit_zero : ℕ
digit_zero = 48

-- the digit 9
abbrev pub digit_nine : ℕ
digit_nine = 57

-- decimal digits: 0 to 9, whose bytes follow one another
unfoldable pub is_digit : ℕ → Bool
is_digit byte = leb digit_zero byte && leb byte digit_nine
