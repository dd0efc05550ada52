-- White bytes and comments as they stand in an input, by their places.
use Rattle.std.specs.Prelude.{ℕ, ◌+◌, ◌<◌, true, false, List, ◌≡◌, length}
use Rattle.grammar.specs.{byte_at, AllOf}
use Rattle.p6_gap.specs.Bytes.{is_white, hash, ends_comment, is_text}

-- from place a up to b stands one white byte; or one comment: `#`, so many bytes of text, and an LF or CR
pub data White (input : List ℕ) (a b : ℕ) : Type 0 where
  byte : is_white (byte_at input a) ≡ true → b ≡ a + 1 → White input a b
  comment : (text : ℕ) → byte_at input a ≡ hash → AllOf is_text input (a + 1) text
      → ends_comment (byte_at input (a + 1 + text)) ≡ true → b ≡ a + 1 + text + 1 → White input a b

-- from a up to b stand so many of them, one behind the other, or none
pub data Whites (input : List ℕ) : ℕ → ℕ → Type 0 where
  none : (a b : ℕ) → a ≡ b → Whites input a b
  more : (a middle b : ℕ) → White input a middle → Whites input middle b → Whites input a b

-- what may stand between two parts: one of them, or more
pub record Gap (input : List ℕ) (a b : ℕ) : Type 0 where
  pub middle : ℕ
  pub first : White input a middle
  pub others : Whites input middle b

-- at `at` a comment opens that never ends: no LF or CR stands behind it
pub record Unended (input : List ℕ) (at : ℕ) : Type 0 where
  pub opens : byte_at input at ≡ hash
  pub never : (i : ℕ) → at < i → ends_comment (byte_at input i) ≡ false

-- white bytes and comments from a on are read up to e: so many stand there, and then neither a white byte nor `#`; or
-- so many and then a comment that never ends, which is read up to the input's length
pub data GapRead (input : List ℕ) (a e : ℕ) : Type 0 where
  stops : Whites input a e → is_white (byte_at input e) ≡ false → ¬ (byte_at input e ≡ hash) → GapRead input a e
  open_ended : (from : ℕ) → Whites input a from → Unended input from → e ≡ length input → GapRead input a e
