-- What a whole shade costs a weighted group, in the figures W, S and Q. Two inductions over the places; the rest is
-- `omega`.
use mathlib.Core.Path.{◌≡◌, ap}
use Prim.Native.Nat.{ℕ, zero, suc, ◌+◌, ◌-◌, ◌*◌, ◌≤◌, ◌<◌}
use native.Mathlib.Nat.{mul-le-mul, le_of_mul-le-mul_left}
use native.Mathlib.Omega.{arith}
use Rattle.number.specs.Groups.{Group, W, S, Q, cost}
use Rattle.number.specs.Square.{gap, sq}
use Rattle.number.specs.Sum.{sum}
use Rattle.number.proofs.Squares.{sq-law}

module _ (w x : ℕ → ℕ) where
  -- the group of the places below n
  abbrev upto : ℕ → Group
  upto n = record { n = n; w = w; x = x }

  -- `cost-law`, place after place
  upto-cost : (n z : ℕ) → cost (upto n) z + 2 * (z * S (upto n)) ≡ Q (upto n) + W (upto n) * (z * z)
  unfolding sum
  upto-cost zero z = omega arith
  upto-cost (suc n) z = omega (arith, upto-cost n z, ap (λ t. w n * t) (sq-law (x n) z))

  -- `cauchy`, place after place: the step is the last place's weight times what a shade there costs the others
  upto-cauchy : (n : ℕ) → S (upto n) * S (upto n) ≤ W (upto n) * Q (upto n)
  unfolding sum
  upto-cauchy zero = omega arith
  upto-cauchy (suc n) = omega (arith, upto-cauchy n, ap (λ t. w n * t) (upto-cost n (x n)))

-- a shade at z costs Q - 2zS + Wz²
cost-law : (G : Group) (z : ℕ) → cost G z + 2 * (z * S G) ≡ Q G + W G * (z * z)
cost-law G z = upto-cost G.w G.x G.n z

-- S² is at most WQ
pub cauchy : (G : Group) → S G * S G ≤ W G * Q G
cauchy G = upto-cauchy G.w G.x G.n

-- W times a cost is in two parts: the group's own, WQ - S², and the square of how far zW is from S
pub cost-parts : (G : Group) (z : ℕ) → W G * cost G z + S G * S G ≡ W G * Q G + sq (S G) (z * W G)
cost-parts G z = omega (arith, ap (λ t. W G * t) (cost-law G z), sq-law (S G) (z * W G))

-- of two gaps the lesser has the lesser square
gap-squared : (t a b : ℕ) → gap t a ≤ gap t b → sq t a ≤ sq t b
unfolding sq
gap-squared t a b h = mul-le-mul h h

-- a place that is no farther from the true mean costs no more
pub nearer-no-dearer : (G : Group) → 0 < W G → (y z : ℕ) → gap (S G) (y * W G) ≤ gap (S G) (z * W G)
    → cost G y ≤ cost G z
nearer-no-dearer G pos y z h =
    le_of_mul-le-mul_left
    (omega (arith, cost-parts G y, cost-parts G z, gap-squared (S G) (y * W G) (z * W G) h)) pos
