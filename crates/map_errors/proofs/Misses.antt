-- Squared differences added up: when two sums of them agree, what they are at most, and a sum in two parts.
use Prim.Native.Nat.{ℕ, ◌+◌, ◌*◌, ◌≤◌, ◌<◌}
use mathlib.Core.List.{List}
use mathlib.Core.Path.{◌≡◌}
use Rattle.number.specs.{sq}
use Rattle.number.proofs.Squares.{sq-most}
use Rattle.number.proofs.Sums.{sum-eq, sum_bound, sum-parts}
use Rattle.colour.specs.{Point, Within}
use Rattle.shades.specs.{shade_at, axis}
use Rattle.shades.proofs.Laying.{axis-within}
use Rattle.map_errors.specs.Missing.{miss_on, misses_of, plus_errors}

-- ---- place by place

module _ (n : ℕ) (c d : ℕ → Point) (s t : List ℕ) (f g : ℕ → ℕ) (point : (i : ℕ) → i < n → c i ≡ d i)
    (shade : (i : ℕ) → i < n → shade_at s (f i) ≡ shade_at t (g i)) where
  -- points and shades that are equal differ alike on each channel
  miss-same : (e : ℕ) → miss_on e c s f n ≡ miss_on e d t g n
  miss-same e = sum-eq n _ _ (λ i l. cc (point i l, shade i l))

  -- and on all three
  pub misses-same : misses_of c s f n ≡ misses_of d t g n
  misses-same = rw (miss-same 0, miss-same 1, miss-same 2)

-- ---- the most that they are, for points and shades with no coordinate above m

-- the squared difference of point c i from the shade that f names, on channel e
abbrev pub miss_at : ℕ → (ℕ → Point) → List ℕ → (ℕ → ℕ) → ℕ → ℕ
miss_at e c s f i = sq (axis e (c i)) (axis e (shade_at s (f i)))

module _ (m : ℕ) (c : ℕ → Point) (s : List ℕ) (f : ℕ → ℕ) (low : (q : ℕ) → Within m (shade_at s q)) where
  -- one point misses by at most m² on a channel
  miss-low : (e i : ℕ) → Within m (c i) → miss_at e c s f i ≤ m * m
  miss-low e i inside =
      let p = shade_at s (f i) in
      sq-most (axis e (c i)) (axis e p) m (axis-within m e (c i) inside) (axis-within m e p (low (f i)))

  -- and so on each
  pub misses-low : (i : ℕ) → Within m (c i)
      → (miss_at 0 c s f i ≤ m * m) × (miss_at 1 c s f i ≤ m * m) × (miss_at 2 c s f i ≤ m * m)
  misses-low i inside = (miss-low 0 i inside, miss-low 1 i inside, miss-low 2 i inside)

  -- n points miss by at most n times m²
  pub miss-most : (e n : ℕ) → ((i : ℕ) → i < n → Within m (c i)) → miss_on e c s f n ≤ n * (m * m)
  miss-most e n inside = sum_bound n (m * m) _ (λ i l. miss-low e i (inside i l))

-- ---- in two parts

module _ (a n : ℕ) (c : ℕ → Point) (s : List ℕ) (f : ℕ → ℕ) where
  -- what a + n points miss on a channel is what the first a miss and what the n behind miss
  miss-parts : (e : ℕ) → miss_on e c s f (a + n) ≡ miss_on e c s f a + miss_on e (λ i. c (a + i)) s (λ i. f (a + i)) n
  miss-parts e = sum-parts a n _

  -- and on all three
  pub misses-parts : misses_of c s f (a + n)
      ≡ plus_errors (misses_of c s f a) (misses_of (λ i. c (a + i)) s (λ i. f (a + i)) n)
  misses-parts = rw (miss-parts 0, miss-parts 1, miss-parts 2)
