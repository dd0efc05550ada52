-- How far colours are from their nearest of some shades: it depends on these shades alone. Of different colours one at
-- most stands on a shade, so that with each shade more at most one fewer is unlike them all.
use mathlib.Core.Bool.{Bool, true, false}
use mathlib.Core.List.{List}
use mathlib.Core.Logic.{◌⊎◌, inl, inr, ⊎_elim}
use mathlib.Core.Path.{◌≡◌, refl, ap, ◌∙◌}
use Prim.Native.Nat.{ℕ, zero, suc, ◌+◌, ◌≤◌, ◌<◌}
use native.Mathlib.Nat.{add-zero}
use native.Mathlib.Omega.{arith}
use lib.Dec.{ltb, eqb}
use borrow.Author.Tests.{lt-ltb, ltb-true, le-ltb, eqb-true, eqb-false}
use Rattle.number.specs.{how_many}
use Rattle.number.proofs.Counts.{none-how_many}
use Rattle.number.proofs.Searches.{below-or-last}
use Rattle.number.proofs.Tallies.{how_many-same, how_many-all, how_many-find, how_many-one, how_many-either}
use Rattle.colour.specs.{Point, distance}
use Rattle.colour.proofs.Distances.{distance-sym, distance-halves}
use Rattle.shades.specs.{shade_at, to_shade, nearest_shade}
use Rattle.shades.proofs.Nearest.{nearest-below, nearest-least, nearest-same}
use Rattle.method.specs.Starting.{remote, unlike}

-- where the first k shades of two lists agree, a colour is as far from the nearest of either
pub remote-same : (s t : List ℕ) (k : ℕ) (c : Point) → 0 < k → ((p : ℕ) → p < k → shade_at s p ≡ shade_at t p)
    → remote s k c ≡ remote t k c
remote-same s t k c some same =
    ap (distance c) (same (nearest_shade s k c) (nearest-below s k c some))
    ∙ ap (to_shade t c) (nearest-same s t k same c)

-- and as many colours are unlike them
pub unlike-same : (n : ℕ) (c : ℕ → Point) (s t : List ℕ) (k : ℕ) → 0 < k
    → ((p : ℕ) → p < k → shade_at s p ≡ shade_at t p) → unlike n c s k ≡ unlike n c t k
unlike-same n c s t k some same = how_many-same n _ _ (λ i l. ap (ltb 0) (remote-same s t k (c i) some same))

-- a point is off its nearest shade of k and one, or off that of k, or on the last
off-or-on : (s : List ℕ) (k : ℕ) (p : Point) → ltb 0 (remote s k p) ≡ true
    → (ltb 0 (remote s (suc k) p) ≡ true) ⊎ (eqb (to_shade s p k) 0 ≡ true)
off-or-on s k p h = by (eqb (to_shade s p k) 0) refl
  where
    off : ¬ (to_shade s p k ≡ 0) → 0 < remote s (suc k) p
    off d =
        ⊎_elim
        (λ l. omega (arith, ltb-true 0 (remote s k p) h, nearest-least s k p (nearest_shade s (suc k) p) l))
        (λ e. let z = ap (to_shade s p) e in omega (arith, d))
        (below-or-last k (nearest_shade s (suc k) p) (omega (arith, nearest-below s (suc k) p (omega arith))))

    by : (t : Bool) → eqb (to_shade s p k) 0 ≡ t
        → (ltb 0 (remote s (suc k) p) ≡ true) ⊎ (eqb (to_shade s p k) 0 ≡ true)
    by true e = inr e
    by false e = inl (lt-ltb 0 (remote s (suc k) p) (off (eqb-false (to_shade s p k) 0 e)))

-- ---- colours that all differ

module _ (n : ℕ) (c : ℕ → Point) (differ : (i j : ℕ) → i < n → j < n → distance (c i) (c j) ≡ 0 → i ≡ j)
    (s : List ℕ) where
  -- on a shade stands one of them at most
  on-one-at-most : (q : ℕ) → how_many n (λ i. eqb (to_shade s (c i) q) 0) ≤ 1
  on-one-at-most q =
      how_many-one n _
      (λ i j h l e d. differ i j h l
      (let z = shade_at s q in
      omega (
        arith,
        distance-halves (c i) (c j) z,
        distance-sym z (c i),
        distance-sym z (c j),
        eqb-true (to_shade s (c i) q) 0 e,
        eqb-true (to_shade s (c j) q) 0 d,
      )))

  -- with a shade more, one fewer at most is unlike all
  unlike-next : (k : ℕ) → unlike n c s k ≤ unlike n c s (suc k) + 1
  unlike-next k =
      omega (
        arith,
        how_many-either n _ _ (λ i. eqb (to_shade s (c i) k) 0) (λ i l. off-or-on s k (c i)),
        on-one-at-most k,
      )

  -- with j shades more, j fewer at most
  pub unlike-more : (k j : ℕ) → unlike n c s k ≤ unlike n c s (k + j) + j
  unlike-more k zero = rw (add-zero k) (omega arith)
  unlike-more k (suc j) =
      let e : k + suc j ≡ suc (k + j) = omega arith in
      rw e (omega (arith, unlike-more k j, unlike-next (k + j)))

  -- unlike one shade are all but one at most
  unlike-one : n ≤ unlike n c s 1 + 1
  unlike-one =
      omega (
        arith,
        how_many-all n (λ i. true) (λ i l. refl),
        how_many-either n (λ i. true) (λ i. ltb 0 (remote s 1 (c i))) (λ i. eqb (to_shade s (c i) 0) 0)
            (λ i l t. by i (eqb (to_shade s (c i) 0) 0) refl),
        on-one-at-most 0,
      )
    where
      by : (i : ℕ) (t : Bool) → eqb (to_shade s (c i) 0) 0 ≡ t
          → (ltb 0 (remote s 1 (c i)) ≡ true) ⊎ (eqb (to_shade s (c i) 0) 0 ≡ true)
      by i true e = inr e
      by i false e =
          let first : nearest_shade s 1 (c i) ≡ 0 = omega (arith, nearest-below s 1 (c i) (omega arith)) in
          let z = ap (to_shade s (c i)) first in
          inl (lt-ltb 0 (remote s 1 (c i)) (omega (arith, eqb-false (to_shade s (c i) 0) 0 e)))

  -- and unlike k shades all but k at most
  pub unlike-at-least : (k : ℕ) → 0 < k → n ≤ unlike n c s k + k
  unlike-at-least zero some = absurd (omega arith)
  unlike-at-least (suc j) some =
      let e : 1 + j ≡ suc j = omega arith in
      omega (arith, unlike-one, rw e at (unlike-more 1 j))

  -- so where each stands on one of k shades, they are at most k
  pub covered-at-most : (k : ℕ) → 0 < k → ((i : ℕ) → i < n → remote s k (c i) ≡ 0) → n ≤ k
  covered-at-most k some on =
      omega (
        arith,
        unlike-at-least k some,
        none-how_many n (λ i. ltb 0 (remote s k (c i))) (λ i l. le-ltb 0 (remote s k (c i)) (omega (arith, on i l))),
      )

-- where a colour is unlike k shades, the farthest from them is: no colour stands where another is farther
pub unlike-find : (n : ℕ) (c : ℕ → Point) (s : List ℕ) (k : ℕ) → 0 < unlike n c s k
    → (i : ℕ) × (i < n) × (0 < remote s k (c i))
unlike-find n c s k some =
    let f = how_many-find n (λ i. ltb 0 (remote s k (c i))) some in
    (f.0, f.1, ltb-true 0 (remote s k (c f.0)) f.2)
