-- The bytes that stand between two parts of a header: white bytes, and those that open and end a comment.
use Rattle.std.specs.Prelude.{ℕ, Bool, not, ◌||◌, eqb}
use Rattle.grammar.specs.{blank, tab, carriage_return, line_feed}

-- white bytes: blank, TAB, CR, LF
unfoldable pub is_white : ℕ → Bool
is_white byte = eqb byte blank || (eqb byte tab || (eqb byte carriage_return || eqb byte line_feed))

-- `#`, which opens a comment
abbrev pub hash : ℕ
hash = 35

-- LF and CR end a comment
unfoldable pub ends_comment : ℕ → Bool
ends_comment byte = eqb byte line_feed || eqb byte carriage_return

-- every other byte is its text, `#` and NUL too
abbrev pub is_text : ℕ → Bool
is_text byte = not (ends_comment byte)
