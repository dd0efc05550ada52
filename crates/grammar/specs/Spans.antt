-- Spans: bytes of one kind in a row, from a place of an input on.
use Rattle.std.specs.Prelude.{ℕ, ◌+◌, ◌<◌, Bool, true, not, List, ◌≡◌}
use Rattle.number.specs.{first_that}
use Rattle.grammar.specs.Bytes.{byte_at}

-- how many bytes from `at` on are of one kind, at most this many
abbrev pub span_at : (ℕ → Bool) → ℕ → List ℕ → ℕ → ℕ
span_at kind most input at = first_that most (λ i. not (kind (byte_at input (at + i))))

-- the first `count` bytes from `at` on are of one kind
abbrev pub AllOf : (ℕ → Bool) → List ℕ → ℕ → ℕ → Type 0
AllOf kind input at count = (i : ℕ) → i < count → kind (byte_at input (at + i)) ≡ true
