-- The rounded mean: off the true mean by at most a half, halves going up, and the only such; as cheap as any whole
-- shade; within a quarter of W of the least cost; and no higher than the highest coordinate.
use mathlib.Core.Path.{◌≡◌, refl}
use Prim.Native.Nat.{ℕ, ◌+◌, ◌-◌, ◌*◌, ◌≤◌, ◌<◌}
use native.Mathlib.Decide.{dec_le}
use native.Mathlib.Nat.{
  div-mul-le_self,
  lt-div-mul-add,
  div-lt_iff_lt-mul,
  div-eq_of_eq-mul_left,
  mul-le-mul,
  mul-le-mul_left,
  mul-le-mul_right,
}
use native.Mathlib.Omega.{arith}
use Rattle.number.specs.Groups.{Group, W, S, Q, cost, rounded_mean, Nearest}
use Rattle.number.specs.Square.{gap, sq}
use Rattle.number.proofs.Costs.{cauchy, cost-parts, nearer-no-dearer}
use Rattle.number.proofs.Sums.{sum-le, sum-mul}

-- a multiple of k that is off t by at most a half of k is as near to t as any
half-off-nearest : (k t m z : ℕ) → 2 * gap t (m * k) ≤ k → gap t (m * k) ≤ gap t (z * k)
half-off-nearest k t m z near =
    elim (dec_le z m) [
      | no h ↦ omega (arith, mul-le-mul_right {m = m + 1} {n = z} k (omega arith))
      | yes h ↦ elim (dec_le m z) [
        | no h' ↦ omega (arith, mul-le-mul_right {m = z + 1} {n = m} k (omega arith))
        | yes h' ↦ omega (arith, mul-le-mul_right k h, mul-le-mul_right k h')
      ]
    ]

module _ (k t : ℕ) (pos : 0 < k) where
  -- the rounded mean is off by at most a half, either way
  pub mean-near : 2 * gap t (rounded_mean k t * k) ≤ k
  mean-near =
      omega (arith, div-mul-le_self (2 * t + k) (2 * k), lt-div-mul-add {a = 2 * t + k} {b = 2 * k} (omega arith))

  -- `mean-near`, squared
  mean-off : 4 * sq t (rounded_mean k t * k) ≤ k * k
  unfolding sq
  mean-off = omega (arith, mul-le-mul mean-near mean-near)

  -- no whole number times k is nearer to t
  mean-nearest : (z : ℕ) → gap t (rounded_mean k t * k) ≤ gap t (z * k)
  mean-nearest z = half-off-nearest k t (rounded_mean k t) z mean-near

  -- and every one above it is farther
  mean-above : (z : ℕ) → rounded_mean k t < z → gap t (rounded_mean k t * k) < gap t (z * k)
  mean-above z h =
      omega (
        arith,
        mul-le-mul_right {m = rounded_mean k t + 1} {n = z} k (omega arith),
        lt-div-mul-add {a = 2 * t + k} {b = 2 * k} (omega arith),
      )

  -- so it is the nearest, a half going up
  pub mean-is-nearest : Nearest k t (rounded_mean k t)
  mean-is-nearest = record { no_nearer = mean-nearest; halves_up = mean-above }

  -- a mean of at most `top` rounds to at most `top`
  pub mean-below : (top : ℕ) → t ≤ top * k → rounded_mean k t ≤ top
  mean-below top h =
      omega (arith, (div-lt_iff_lt-mul {k = 2 * k} {x = 2 * t + k} {y = top + 1} (omega arith)).1 (omega arith))

-- there is one nearest whole number only: of two, the lower would be farther from the one above it than that allows
pub nearest-only : (w s : ℕ) {x y : ℕ} → Nearest w s x → Nearest w s y → x ≡ y
nearest-only w s {x} {y} a b = elim (dec_le x y) [
  | no h ↦ absurd (omega (arith, b.halves_up x (omega arith), a.no_nearer y))
  | yes h ↦ elim (dec_le y x) [
    | no h' ↦ absurd (omega (arith, a.halves_up y (omega arith), b.no_nearer x))
    | yes h' ↦ omega arith
  ]
]

-- a mean of m and a half rounds to m + 1
pub mean-half-up : (k m : ℕ) → 0 < k → rounded_mean (2 * k) (2 * k * m + k) ≡ m + 1
mean-half-up k m pos = div-eq_of_eq-mul_left (omega arith) (omega arith)

module _ (G : Group) (pos : 0 < W G) where
  -- no whole shade costs less than the rounded mean
  pub mean-best : (z : ℕ) → cost G (rounded_mean (W G) (S G)) ≤ cost G z
  mean-best z = nearer-no-dearer G pos (rounded_mean (W G) (S G)) z (mean-nearest (W G) (S G) pos z)

  -- 4W times the cost of the rounded mean is at most 4 (WQ - S²) + W²
  pub mean-bound : 4 * (W G * cost G (rounded_mean (W G) (S G))) ≤ 4 * (W G * Q G - S G * S G) + W G * W G
  mean-bound = omega (arith, cauchy G, cost-parts G (rounded_mean (W G) (S G)), mean-off (W G) (S G) pos)

  -- the rounded mean is at most what every coordinate is at most
  pub mean-fits : (top : ℕ) → ((i : ℕ) → i < G.n → G.x i ≤ top) → rounded_mean (W G) (S G) ≤ top
  mean-fits top h =
      mean-below (W G) (S G) pos top
      (omega (
        arith,
        sum-le G.n (λ i. G.w i * G.x i) (λ i. top * G.w i)
            (λ i l. omega (arith, mul-le-mul_left (G.w i) (h i l))),
        sum-mul G.n top (λ i. top * G.w i) G.w (λ i l. refl),
      ))
