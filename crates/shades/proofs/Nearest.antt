-- The nearest shade: by the least packed number, and by the shades that the shortened search looks at.
use Prim.Native.Nat.{ℕ, ◌+◌, ◌*◌, ◌/◌, ◌%◌, ◌≤◌, ◌<◌}
use mathlib.Core.Bool.{Bool, true, false, not, ◌&&◌}
use mathlib.Core.List.{List}
use mathlib.Core.Logic.{◌⊎◌, inl, inr, ⊎_elim}
use mathlib.Core.Path.{◌≡◌, refl, sym, ap, ap₂, ◌∙◌}
use native.Mathlib.Decide.{dec_le, ℕ_discrete}
use native.Mathlib.Omega.{arith}
use lib.Dec.{ltb, leb, eqb}
use borrow.Author.Tests.{le-leb, ne_eqb}
use Rattle.number.specs.{Best}
use Rattle.number.proofs.Cases.{never}
use Rattle.number.proofs.Counts.{how_many-at-most, how_many-same}
use Rattle.number.proofs.Peaks.{least-at-most}
use Rattle.number.proofs.Searches.{first_below, first-same, first-is-best, best-is-first, best-keep, rising}
use Rattle.number.proofs.Tallies.{how_many-others}
use Rattle.colour.specs.{Point, distance}
use Rattle.colour.proofs.Distances.{distance_self, farther}
use Rattle.shades.specs.Places.{most_shades, shade_at}
use Rattle.shades.specs.Distances.{to_shade, nearest_shade, tried, LookedAt, worked, pack, packed_nearest}

-- the nearest of some shades is one of them
pub nearest-below : (s : List ℕ) (k : ℕ) (c : Point) → 0 < k → nearest_shade s k c < k
nearest-below s k c h = first_below ltb k (to_shade s c) h

-- no shade is nearer
pub nearest-least : (s : List ℕ) (k : ℕ) (c : Point) (q : ℕ) → q < k
    → to_shade s c (nearest_shade s k c) ≤ to_shade s c q
nearest-least s k c q h = least-at-most k q (to_shade s c) h

-- every lower number is farther
pub nearest-lowest : (s : List ℕ) (k : ℕ) (c : Point) (q : ℕ) → q < nearest_shade s k c → 0 < k
    → to_shade s c (nearest_shade s k c) < to_shade s c q
nearest-lowest s k c q h some =
    (first-is-best rising (to_shade s c) k some).lower q (omega (arith, nearest-below s k c some)) h

-- ---- distance and number in one

module _ (s : List ℕ) (k : ℕ) (c : Point) (some : 0 < k) (few : k ≤ most_shades) where
  -- the number is read back
  pub packed-number : packed_nearest s k c % most_shades ≡ nearest_shade s k c
  packed-number = omega (arith, nearest-below s k c some)

  -- and the distance
  packed-distance : packed_nearest s k c / most_shades ≡ to_shade s c (nearest_shade s k c)
  packed-distance = omega (arith, nearest-below s k c some)

  -- both are read from a number that is the same
  pub packed-found : (m : ℕ) → m ≡ packed_nearest s k c
      → (m % most_shades ≡ nearest_shade s k c) × (m / most_shades ≡ to_shade s c (nearest_shade s k c))
  packed-found m e = rw e (packed-number, packed-distance)

  -- no shade has a lower packed number than the nearest
  pub packed-least : (q : ℕ) → q < k → packed_nearest s k c ≤ pack s c q
  packed-least q h =
      elim (dec_le (nearest_shade s k c) q) [
        | yes l ↦ omega (arith, nearest-least s k c q h)
        | no l ↦
            omega (arith, nearest-lowest s k c q (omega arith) some, nearest-below s k c some)
      ]

  -- whatever packed number of a shade no shade has a lower one than, is that of the nearest
  pub packed-only : (n m : ℕ) → n < k → m ≡ pack s c n → ((q : ℕ) → q < k → m ≤ pack s c q) → m ≡ packed_nearest s k c
  packed-only n m below is low =
      omega (arith, packed-least n below, low (nearest_shade s k c) (nearest-below s k c some))

-- ---- the shortened search

module _ (s : List ℕ) (k : ℕ) (c : Point) (p : ℕ) where
  -- a shade that is not tried is p, or farther from c than p
  untried-farther : (q : ℕ) → tried s c p q ≡ false → (q ≡ p) ⊎ (to_shade s c p < to_shade s c q)
  untried-farther q e = go (ℕ_discrete q p) (dec_le (distance (shade_at s p) (shade_at s q)) (4 * to_shade s c p))
    where
      go : Dec (q ≡ p) → Dec (distance (shade_at s p) (shade_at s q) ≤ 4 * to_shade s c p)
          → (q ≡ p) ⊎ (to_shade s c p < to_shade s c q)
      go (yes h) l = inl h
      go (no h) (yes l) = never (sym (let z : tried s c p q ≡ true = simp (ne_eqb q p h, le-leb _ _ l) in z) ∙ e)
      go (no h) (no l) = inr (farther (shade_at s p) (shade_at s q) c (omega arith))

  -- the first best of the shades looked at is the first best of all
  pub shortened-is-full : p < k → {m d : ℕ} → Best (λ a b. a < b) (LookedAt s k c p) (to_shade s c) m d
      → m ≡ nearest_shade s k c
  shortened-is-full h {m} {d} b =
      best-is-first rising (to_shade s c) k (omega arith)
      (best-keep rising b (λ j l. l.0) (λ j l. left_out j l))
    where
      near : d ≤ to_shade s c p
      near = let none = b.unbettered p (h, inl refl) in omega arith

      left_out : (j : ℕ) → j < k → LookedAt s k c p j ⊎ (d < to_shade s c j)
      left_out j l = go (tried s c p j) refl
        where
          go : (t : Bool) → tried s c p j ≡ t → LookedAt s k c p j ⊎ (d < to_shade s c j)
          go true e = inl (l, inr e)
          go false e = ⊎_elim (λ z. inl (l, inl z)) (λ w. inr (omega (arith, near))) (untried-farther j e)

-- a search works out at most one distance more than there are shades
pub worked-at-most : (s : List ℕ) (k : ℕ) (c : Point) (p : ℕ) → worked s k c p ≤ k + 1
worked-at-most s k c p = omega (arith, how_many-at-most k (tried s c p))

-- from one of the shades it works out at most one distance for each: d is that to p, and p is not among the others
pub worked-at-most-all : (s : List ℕ) (k : ℕ) (c : Point) (p : ℕ) → p < k → worked s k c p ≤ k
worked-at-most-all s k c p h =
    let near : ℕ → Bool = λ q. leb (distance (shade_at s p) (shade_at s q)) (4 * to_shade s c p) in
    let zero-away = distance_self (shade_at s p) in
    let itself = le-leb (distance (shade_at s p) (shade_at s p)) (4 * to_shade s c p) (omega arith) in
    omega (arith, how_many-others k p near h itself, how_many-at-most k near)

-- ---- shades that stand in the same places

module _ (s t : List ℕ) (k : ℕ) (same : (q : ℕ) → q < k → shade_at s q ≡ shade_at t q) (c : Point) where
  -- the same is nearest
  pub nearest-same : nearest_shade s k c ≡ nearest_shade t k c
  nearest-same = first-same ltb k (to_shade s c) (to_shade t c) (λ q l. ap (distance c) (same q l))

  -- and a search works out as many distances
  pub worked_same : (p : ℕ) → p < k → worked s k c p ≡ worked t k c p
  worked_same p h =
      ap (λ n. 1 + n)
      (how_many-same k (tried s c p) (tried t c p)
      (λ q l. ap₂ (λ (x y : Point). not (eqb q p) && leb (distance x y) (4 * distance c x)) (same p h) (same q l)))
