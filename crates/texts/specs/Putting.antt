-- Bytes put into a buffer.
use Rattle.std.specs.Prelude.{ℕ, ◌+◌, List, ◌≡◌, get_or, length}
use Rattle.number.specs.{fill_from}

-- the buffer with a text from place `at` on; the other places keep their values
abbrev pub with_text : ℕ → List ℕ → List ℕ → List ℕ
with_text at text buffer = fill_from at (length text) (λ i. get_or text i 0) buffer

-- the text was put into the buffer from place `at` on: `next` is the place behind it, and `left` the buffer then
pub record PutMeets (at : ℕ) (text buffer : List ℕ) (next : ℕ) (left : List ℕ) : Type 0 where
  pub ends : next ≡ at + length text
  pub text_is : left ≡ with_text at text buffer
