-- The least that a group could cost with a fractional shade, and that the true mean S / W attains it.
-- A shade at a / k on a group is the whole shade a on the group drawn k times as large, at k² times the cost.
use mathlib.Core.Path.{◌≡◌}
use Prim.Native.Nat.{ℕ, ◌+◌, ◌-◌, ◌*◌, ◌≤◌}
use native.Mathlib.Nat.{mul-sub}
use native.Mathlib.Omega.{arith}
use Rattle.number.specs.Groups.{Group, W, S, Q, cost, scale}
use Rattle.number.specs.Square.{sq}
use Rattle.number.proofs.Costs.{cost-parts}
use Rattle.number.proofs.Squares.{sq-law}
use Rattle.number.proofs.Sums.{sum-mul}

-- coordinates k times as large have k times the sum
S-scale : (k : ℕ) (G : Group) → S (scale k G) ≡ k * S G
S-scale k G = sum-mul G.n k _ _ (λ i l. omega arith)

-- coordinates k times as large have k² times the sum of squares
Q-scale : (k : ℕ) (G : Group) → Q (scale k G) ≡ k * k * Q G
Q-scale k G = sum-mul G.n (k * k) _ _ (λ i l. omega arith)

-- the cost of a shade at a / k in its two parts, times k²
pub fraction-parts : (G : Group) (k a : ℕ)
    → W G * cost (scale k G) a + k * S G * (k * S G) ≡ W G * (k * k * Q G) + sq (k * S G) (a * W G)
fraction-parts G k a = rw (S-scale k G, Q-scale k G) at (cost-parts (scale k G) a)

-- no shade a / k does better than the group's own part
pub fraction-least : (G : Group) (k a : ℕ) → k * k * (W G * Q G - S G * S G) ≤ W G * cost (scale k G) a
fraction-least G k a = rw mul-sub (omega (arith, fraction-parts G k a))

-- at k = W and a = S the second part is gone
pub fraction-exact : (G : Group)
    → W G * cost (scale (W G) G) (S G) + W G * S G * (W G * S G) ≡ W G * (W G * W G * Q G)
fraction-exact G = omega (arith, fraction-parts G (W G) (S G), sq-law (W G * S G) (S G * W G))

-- the shade S / W costs no more than the group's own part
pub fraction-attained : (G : Group) → W G * cost (scale (W G) G) (S G) ≡ W G * W G * (W G * Q G - S G * S G)
fraction-attained G = rw mul-sub (omega (arith, fraction-exact G))
