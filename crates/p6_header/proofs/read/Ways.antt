-- The ways a header fails, at its letters, at a field and at its last byte, and how it goes on after each.
use Prim.Native.Nat.{ℕ, ◌+◌}
use mathlib.Core.Bool.{true, false}
use mathlib.Core.List.{List}
use mathlib.Core.Path.{◌≡◌, sym, ap, ◌∙◌}
use borrow.Author.Tests.{eq-eqb, ne_eqb}
use Rattle.std.proofs.Common.{Ok, Err}
use Rattle.grammar.specs.{byte_at, Numeral}
use Rattle.p6_gap.specs.{is_white}
use Rattle.p6_header.specs.Bytes.{letter_p, figure_six}
use Rattle.p6_header.specs.Fields.{field_at}
use Rattle.p6_header.specs.Headers.{HeaderReading, header_with, and_then, last_white, header_of}

-- ---- the letters

-- without the letter the header fails at 0
pub letter-fails : (s : List ℕ) (x : ℕ) → x ≡ byte_at s 0 → (x ≡ letter_p → ⊥) → Err 0 ≡ header_of s
unfolding header_of
letter-fails s x e n = rw (← e, ne_eqb x letter_p n)

-- without the figure it fails at 1
pub figure-fails : (s : List ℕ) (x y : ℕ) → x ≡ byte_at s 0 → x ≡ letter_p → y ≡ byte_at s 1 → (y ≡ figure_six → ⊥)
    → Err 1 ≡ header_of s
unfolding header_of
figure-fails s x y e l f n = rw (← e, eq-eqb x letter_p l, ← f, ne_eqb y figure_six n)

-- ---- the fields

-- how it goes on after the height
abbrev pub after_height : List ℕ → ℕ → ℕ → ℕ → HeaderReading
after_height s width height at = and_then (field_at s at) (last_white s width height)

-- how it goes on after the width
abbrev pub after_width : List ℕ → ℕ → ℕ → HeaderReading
after_width s width at = and_then (field_at s at) (after_height s width)

-- with both letters it goes on with the width
pub letters-pass : (s : List ℕ) (x y : ℕ) → x ≡ byte_at s 0 → x ≡ letter_p → y ≡ byte_at s 1 → y ≡ figure_six
    → header_of s ≡ and_then (field_at s 2) (after_width s)
unfolding header_of
letters-pass s x y e l f g = rw (← e, eq-eqb x letter_p l, ← f, eq-eqb y figure_six g)

-- a field that fails ends it
pub field-ends : (s : List ℕ) (at place : ℕ) (k : ℕ → ℕ → HeaderReading) → header_of s ≡ and_then (field_at s at) k
    → Err place ≡ field_at s at → Err place ≡ header_of s
field-ends s at place k on e = sym (on ∙ ap (λ q. and_then q k) (sym e))

-- after a field that is read it goes on as k says
pub field-passes : (s : List ℕ) (at : ℕ) (number : Numeral) (k : ℕ → ℕ → HeaderReading)
    → header_of s ≡ and_then (field_at s at) k → Ok number ≡ field_at s at
    → header_of s ≡ k number.value number.next
field-passes s at number k on e = on ∙ ap (λ q. and_then q k) (sym e)

-- ---- the last byte

-- with another byte than a white one it fails there
pub last-fails : (s : List ℕ) (width height depth at : ℕ) → header_of s ≡ last_white s width height depth at
    → is_white (byte_at s at) ≡ false → Err at ≡ header_of s
last-fails s width height depth at on e = rw (on, e)

-- with a white byte it is read
pub last-passes : (s : List ℕ) (width height depth at : ℕ) → header_of s ≡ last_white s width height depth at
    → is_white (byte_at s at) ≡ true → header_with width height depth (at + 1) ≡ header_of s
last-passes s width height depth at on e = rw (on, e)
