-- What stands in an input: fields and headers by their places, and the first byte that cannot stand where it does.
use Rattle.std.specs.Prelude.{ℕ, ◌+◌, ◌≤◌, ◌<◌, true, false, List, ◌≡◌, length}
use Rattle.grammar.specs as grammar
use Rattle.grammar.specs.{byte_at, is_digit, Digits, most_digits, decimal}
use Rattle.p6_gap.specs.{is_white, hash, Whites, Gap, Unended}
use Rattle.p6_header.specs.Bytes.{letter_p, figure_six}

-- ---- a field

-- from place a up to b: a gap, then 1 to 5 digits of this value
pub record Field (input : List ℕ) (a b value : ℕ) : Type 0 where
  pub start : ℕ
  pub digits : ℕ
  pub gap : Gap input a start
  pub some_digit : 0 < digits
  pub few_digits : digits ≤ most_digits
  pub digit : Digits input start digits
  pub is : value ≡ decimal digits (λ i. byte_at input (start + i))
  pub ends : b ≡ start + digits

-- the digits of a field end: by their count, or by a byte that is none
abbrev pub DigitsEnd : (input : List ℕ) (a b value : ℕ) → Field input a b value → Type 0
DigitsEnd input a b value field = field.digits < most_digits → is_digit (byte_at input b) ≡ false

-- a field read stands, and its digits are ended
pub record FieldRead (input : List ℕ) (a b value : ℕ) : Type 0 where
  pub field : Field input a b value
  pub ended : DigitsEnd input a b value field

-- a field failed. White bytes and comments lead from its first place to one where neither a white byte nor `#` stands,
-- and where a gap stands before that place no digit: it failed there. Or they lead to a comment that never ends: it
-- failed at the input's length
pub data FieldFailed (input : List ℕ) (a at : ℕ) : Type 0 where
  no_part : Whites input a at → is_white (byte_at input at) ≡ false → ¬ (byte_at input at ≡ hash)
      → (a < at → is_digit (byte_at input at) ≡ false) → FieldFailed input a at
  unended : (from : ℕ) → Whites input a from → Unended input from → at ≡ length input → FieldFailed input a at

-- ---- a header

-- the first `size` bytes of the input are a header with these numbers
pub record HeaderIn (input : List ℕ) (width height depth size : ℕ) : Type 0 where
  pub after-width : ℕ
  pub after-height : ℕ
  pub after-depth : ℕ
  pub letter : byte_at input 0 ≡ letter_p
  pub figure : byte_at input 1 ≡ figure_six
  pub width_is : Field input 2 after-width width
  pub height_is : Field input after-width after-height height
  pub depth_is : Field input after-height after-depth depth
  pub last : is_white (byte_at input after-depth) ≡ true
  pub ends : size ≡ after-depth + 1

-- the bytes are a header, whatever its numbers are, and no more
pub record IsHeader (bytes : List ℕ) : Type 0 where
  pub width : ℕ
  pub height : ℕ
  pub depth : ℕ
  pub is : HeaderIn bytes width height depth (length bytes)

-- ---- between its parts

-- a part of a header before the depth ends at this place: "P6", the width, or the height
pub data PartEnds (input : List ℕ) (end : ℕ) : Type 0 where
  letters : end ≡ 2 → PartEnds input end
  width : (value : ℕ) → Field input 2 end value → PartEnds input end
  height : (middle value next : ℕ) → Field input 2 middle value → Field input middle end next → PartEnds input end

-- at this place a white byte between header parts may stand, after "P6" and before the depth: white bytes and comments
-- lead to it from the end of a part
pub record Between (input : List ℕ) (at : ℕ) : Type 0 where
  pub letter : byte_at input 0 ≡ letter_p
  pub figure : byte_at input 1 ≡ figure_six
  pub end : ℕ
  pub part : PartEnds input end
  pub whites : Whites input end at

-- ---- the first byte that cannot stand where it does

-- place `at` is that of the first byte that cannot stand there, or the end of an input that ends early: some input that
-- begins with a header has the bytes before it, and none has these and the byte at that place too
abbrev pub FirstWrong : List ℕ → ℕ → Type 0
FirstWrong input at = grammar.FirstWrong (grammar.Fronts IsHeader) input at
