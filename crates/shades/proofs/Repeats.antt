-- A value repeated is a list filled with it.
use Prim.Native.Nat.{ℕ, zero, suc, ◌≤◌}
use mathlib.Core.List.{List, [], ◌∷◌, ◌++◌}
use mathlib.Core.Path.{◌≡◌, refl, ap}
use native.Mathlib.Omega.{arith}
use lib.ListN.{length, drop, replicate}
use Rattle.number.specs.{fill}

-- in front of a list
pub repeated : (n v : ℕ) (d : List ℕ) → n ≤ length d → replicate n v ++ drop n d ≡ fill n (λ i. v) d
unfolding fill
repeated zero v d h = refl
repeated (suc n) v [] h = absurd (omega arith)
repeated (suc n) v (x ∷ d) h = ap {B = List ℕ} (λ l. v ∷ l) (repeated n v d (omega arith))

-- in all of it
pub repeated-all : (v : ℕ) (d : List ℕ) → replicate (length d) v ≡ fill (length d) (λ i. v) d
unfolding fill
repeated-all v [] = refl
repeated-all v (x ∷ d) = ap {B = List ℕ} (λ l. v ∷ l) (repeated-all v d)
