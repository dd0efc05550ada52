-- Laws of the distance. Each is a law of squared differences at one coordinate, added up over the three.
use Prim.Native.Nat.{ℕ, ◌+◌, ◌*◌, ◌≤◌, ◌<◌}
use mathlib.Core.Path.{◌≡◌}
use native.Mathlib.Omega.{arith}
use Rattle.number.proofs.Squares.{sq-sym, sq-self, sq-zero, sq-halves, sq-most}
use Rattle.colour.specs.declared.Point.{Point}
use Rattle.colour.specs.Key.{most_key}
use Rattle.colour.specs.Points.{most_coordinate, most_distance, Within, colour_of, distance}
use Rattle.colour.proofs.Keys.{levels-only}

-- a law of coordinates, at each of the three
pub each :
    {P : (Point → ℕ) → Type 0} → ((f : Point → ℕ) → P f)
    → P (λ p. p.r) × P (λ p. p.g) × P (λ p. p.b)
each h = (h _, h _, h _)

-- the distance is the same either way round
pub distance-sym : (p q : Point) → distance p q ≡ distance q p
unfolding distance
distance-sym p q = omega (arith, each (λ f. sq-sym (f p) (f q)))

-- a point is at distance 0 from itself
pub distance_self : (p : Point) → distance p p ≡ 0
unfolding distance
distance_self p = omega (arith, each (λ f. sq-self (f p)))

-- points at distance 0 have the same three coordinates
pub distance-zero : (p q : Point) → distance p q ≡ 0 → (p.r ≡ q.r) × (p.g ≡ q.g) × (p.b ≡ q.b)
unfolding distance
distance-zero p q e = (sq-zero _ _ (omega arith), sq-zero _ _ (omega arith), sq-zero _ _ (omega arith))

-- points at distance 0 from each other are as far from any point
pub as-far : (c p q : Point) → distance p q ≡ 0 → distance c p ≡ distance c q
unfolding distance
as-far c p q e = let z = distance-zero p q e in rw (z.0, z.1, z.2)

-- points with no coordinate above m are at most three squares of m apart
pub distance-within : (m : ℕ) (p q : Point) → Within m p → Within m q → distance p q ≤ 3 * (m * m)
unfolding distance
distance-within m p q h g =
    omega (
      arith,
      sq-most p.r q.r m h.r_low g.r_low,
      sq-most p.g q.g m h.g_low g.g_low,
      sq-most p.b q.b m h.b_low g.b_low,
    )

-- no two points of the grid are farther apart than the greatest distance
pub distance_most :
    (p q : Point) → Within most_coordinate p → Within most_coordinate q → distance p q ≤ most_distance
distance_most = distance-within most_coordinate

-- a distance is at most twice the two by way of x
pub distance-halves : (p q x : Point) → distance p q ≤ 2 * distance x p + 2 * distance x q
unfolding distance
distance-halves p q x = omega (arith, each (λ f. sq-halves (f p) (f q) (f x)))

-- a shade q that is more than four times as far from p as c is, is farther from c than p
pub farther : (p q c : Point) → 4 * distance c p < distance p q → distance c p < distance c q
farther p q c h = omega (arith, distance-halves p q c)

-- ---- where colours stand

-- a colour stands on the grid
pub colour-within : (key : ℕ) → Within most_coordinate (colour_of key)
colour-within key = record { r_low = omega arith; g_low = omega arith; b_low = omega arith }

-- two keys whose colours are at distance 0 are one key
pub colour-only : (k l : ℕ) → k ≤ most_key → l ≤ most_key → distance (colour_of k) (colour_of l) ≡ 0 → k ≡ l
colour-only k l h m e =
    let z = distance-zero (colour_of k) (colour_of l) e in
    levels-only k l h m (omega (arith, z.0)) (omega (arith, z.1)) (omega (arith, z.2))
