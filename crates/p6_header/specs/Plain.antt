-- The header of document 01, which has no comments: white bytes alone stand between its parts.
use Rattle.std.specs.Prelude.{ℕ, ◌+◌, List, length}
use Rattle.grammar.specs.{span_at, Reading}
use Rattle.p6_gap.specs.{is_white}
use Rattle.p6_header.specs.Fields.{number_behind}
use Rattle.p6_header.specs.Headers.{HeaderReading, header_by}

-- the white bytes from `at` on
abbrev pub whites_at : List ℕ → ℕ → ℕ
whites_at input at = span_at is_white (length input) input at

-- one or more white bytes from `at` on and the number after them; with no white byte there it fails at `at`
abbrev pub plain_field : List ℕ → ℕ → Reading
plain_field input at = number_behind input at (at + whites_at input at)

-- the header at the front of an input
abbrev pub plain_header : List ℕ → HeaderReading
plain_header input = header_by plain_field input
