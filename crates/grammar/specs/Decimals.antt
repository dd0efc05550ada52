-- Decimal: the value of digits, and the text of a number, without leading zeros.
use Rattle.std.specs.Prelude.{ℕ, zero, suc, ◌+◌, ◌-◌, ◌*◌, ◌/◌, ◌%◌, cond, List, [], ◌∷◌, ◌++◌, ltb}
use Rattle.grammar.specs.Bytes.{digit_zero}

-- ---- reading

-- the value of so many digits, of which `byte` gives the bytes; that of none is 0
unfoldable pub decimal : ℕ → (ℕ → ℕ) → ℕ
decimal zero byte = 0
decimal (suc count) byte = 10 * decimal count byte + (byte count - digit_zero)

-- ---- writing

-- the most bytes of a number of 64 bits
abbrev pub most_decimal : ℕ
most_decimal = 20

-- the byte of a digit
abbrev pub digit_byte : ℕ → ℕ
digit_byte digit = digit_zero + digit

-- the text of a number that has at most this many digits: those of its tenth part, and then the last
unfoldable pub short_text : ℕ → ℕ → List ℕ
short_text zero number = []
short_text (suc most) number =
    cond (ltb number 10) (digit_byte number ∷ []) (short_text most (number / 10) ++ digit_byte (number % 10) ∷ [])

-- the text of a number of 64 bits
abbrev pub decimal_text : ℕ → List ℕ
decimal_text number = short_text most_decimal number
