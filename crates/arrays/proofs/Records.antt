-- The record in an array.
use mathlib.Core.List.{List, [], ◌∷◌}
use mathlib.Core.Path.{◌≡◌, refl}
use Prim.Native.Nat.{ℕ}
use native.Mathlib.Omega.{arith}
use lib.ListN.{length}
use Rattle.table.specs.{Record}
use Rattle.arrays.specs.Arrays.{record_in, record_numbers}

-- a record laid into an array is read from it again
pub record-kept : (rec : Record) → record_in (record_numbers rec) ≡ rec
record-kept rec = refl

-- an array of five numbers is that of the record in it
pub array-kept : (s : List ℕ) → length s ≡ 5 → record_numbers (record_in s) ≡ s
array-kept [] e = absurd (omega arith)
array-kept (u ∷ []) e = absurd (omega arith)
array-kept (u ∷ p ∷ []) e = absurd (omega arith)
array-kept (u ∷ p ∷ r ∷ []) e = absurd (omega arith)
array-kept (u ∷ p ∷ r ∷ g ∷ []) e = absurd (omega arith)
array-kept (u ∷ p ∷ r ∷ g ∷ b ∷ []) e = refl
array-kept (u ∷ p ∷ r ∷ g ∷ b ∷ x ∷ s) e = absurd (omega arith)
