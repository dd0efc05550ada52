-- What is shown of a table's channel sums, told by two numbers: each theorem in full; its body names the proof.
use Prim.Native.Nat.{ℕ}
use mathlib.Core.Path.{◌≡◌}
use Rattle.table_sums.specs.Telling.{Two}
use Rattle.table_sums.proofs.Telling as telling

-- No other three sums that a table may have give both numbers.
pub two-only : {R G B r g b first second : ℕ} → Two R G B first second → Two r g b first second
    → (R ≡ r) × (G ≡ g) × (B ≡ b)
two-only = telling.two-only
