-- The ways a field is read: it fails at the place where it begins, or is the number behind its gap.
use Prim.Native.Nat.{ℕ}
use mathlib.Core.List.{List}
use mathlib.Core.Path.{◌≡◌}
use Rattle.std.proofs.Common.{Err}
use borrow.Author.Tests.{eq-eqb, ne_eqb}
use Rattle.grammar.specs.{number_at}
use Rattle.p6_gap.specs.{gap_end}
use Rattle.p6_header.specs.Fields.{field_at}

-- with no gap there the field fails
pub field-fails : (s : List ℕ) (at a : ℕ) → a ≡ gap_end s at → a ≡ at → Err at ≡ field_at s at
unfolding field_at
field-fails s at a e z = rw (← e, eq-eqb a at z)

-- with one there it is the number behind it
pub field-reads : (s : List ℕ) (at a : ℕ) → a ≡ gap_end s at → (a ≡ at → ⊥) → number_at s a ≡ field_at s at
unfolding field_at
field-reads s at a e z = rw (← e, ne_eqb a at z)
