-- White bytes and comments as they are read: where one ends, and where all from a place on end.
use Rattle.std.specs.Prelude.{ℕ, zero, suc, ◌+◌, ◌-◌, cond, List, eqb, length}
use Rattle.grammar.specs.{byte_at, span_at}
use Rattle.p6_gap.specs.Bytes.{is_white, hash, ends_comment, is_text}

-- the bytes of text of the comment that opens at `at`: those up to the next LF or CR, or all that are left where there
-- is none
abbrev pub text_at : List ℕ → ℕ → ℕ
text_at input at = span_at is_text (length input - (at + 1)) input (at + 1)

-- where its text ends
abbrev pub text_end : List ℕ → ℕ → ℕ
text_end input at = at + 1 + text_at input at

-- the place behind that comment: the LF or CR is part of it
unfoldable pub comment_end : List ℕ → ℕ → ℕ
comment_end input at =
    cond (ends_comment (byte_at input (text_end input at))) (text_end input at + 1) (text_end input at)

-- the place behind the white byte or the comment at `at`: a comment counts as one white byte. `at` itself where neither
-- stands there
unfoldable pub white_end : List ℕ → ℕ → ℕ
white_end input at =
    cond (is_white (byte_at input at)) (at + 1) (cond (eqb (byte_at input at) hash) (comment_end input at) at)

-- the place behind the first so many of them from `at` on, or behind all where there are fewer
unfoldable pub gap_from : ℕ → List ℕ → ℕ → ℕ
gap_from zero input at = at
gap_from (suc most) input at = gap_from most input (white_end input at)

-- the place behind all of them: there are no more than bytes
abbrev pub gap_end : List ℕ → ℕ → ℕ
gap_end input at = gap_from (length input) input at
