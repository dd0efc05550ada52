-- Shades laid in a list of coordinates and read back, and how far a shade can be.
use Prim.Native.Nat.{ℕ, zero, suc, ◌+◌, ◌*◌, ◌/◌, ◌%◌, ◌≤◌, ◌<◌}
use mathlib.Core.Bool.{true}
use mathlib.Core.List.{List}
use mathlib.Core.Logic.{◌↔◌}
use mathlib.Core.Path.{◌≡◌, refl, sym, ap, ◌∙◌}
use native.Mathlib.Omega.{arith}
use lib.ListN.{get_or, length, take}
use lib.Seq.{get_or-take}
use lib.Dec.{eqb}
use borrow.Author.Tests.{eqb-true, eq-eqb}
use Rattle.number.proofs.Cases.{both}
use Rattle.number.proofs.Fills.{fill-at, fill-at-most, fill-length}
use Rattle.number.proofs.Parts.{take-at-most}
use Rattle.colour.specs.{Point, Within, most_level, most_coordinate, most_distance}
use Rattle.colour.proofs.Distances.{distance_most}
use Rattle.colour.proofs.Promises.{levels-most}
use Rattle.shades.specs.Places.{shade_at, levels_at, axis, coordinate_of, laid, same_place, OnGrid}
use Rattle.shades.specs.Distances.{to_shade}

-- a shade of coordinates on the grid is on the grid
pub shade-within : (s : List ℕ) (q : ℕ) → OnGrid s → Within most_coordinate (shade_at s q)
shade-within s q low = record { r_low = low (3 * q); g_low = low (3 * q + 1); b_low = low (3 * q + 2) }

-- and no farther than the greatest distance from any point of the grid
pub to-shade-most : (s : List ℕ) (c : Point) (q : ℕ) → OnGrid s → Within most_coordinate c
    → to_shade s c q ≤ most_distance
to-shade-most s c q low w = distance_most c (shade_at s q) w (shade-within s q low)

-- the levels of a colour are at most what 255 is
pub levels-within : (m : ℕ) → most_level ≤ m → (ks : List ℕ) (i : ℕ) → Within m (levels_at ks i)
levels-within m h ks i =
    let l = levels-most (get_or ks i 0) in
    record {
      r_low = omega (arith, l.red_low);
      g_low = omega (arith, l.green_low);
      b_low = omega (arith, l.blue_low);
    }

-- each coordinate of a point is at most what all are
pub axis-within : (m e : ℕ) (p : Point) → Within m p → axis e p ≤ m
axis-within m zero p w = w.r_low
axis-within m (suc zero) p w = w.g_low
axis-within m (suc (suc e)) p w = w.b_low

-- coordinate e of shade q stands at place 3q + e
pub coordinate-at : (f : ℕ → Point) (q e : ℕ) → e < 3 → coordinate_of f (3 * q + e) ≡ axis e (f q)
coordinate-at f q e h =
    let d : (3 * q + e) / 3 ≡ q = omega arith in
    let r : (3 * q + e) % 3 ≡ e = omega arith in
    rw (d, r)

-- the first coordinate of shade q, with nothing added to its place
pub first-coordinate : (f : ℕ → Point) (q : ℕ) → coordinate_of f (3 * q) ≡ (f q).r
first-coordinate f q =
    let z : 3 * q ≡ 3 * q + 0 = omega arith in
    rw z (coordinate-at f q 0 (omega arith))

-- coordinate e of a shade that lies in a list stands at place 3q + e
axis-at : (s : List ℕ) (q e : ℕ) → e < 3 → axis e (shade_at s q) ≡ get_or s (3 * q + e) 0
axis-at s q zero h = let z : 3 * q ≡ 3 * q + 0 = omega arith in ap (λ n. get_or s n 0) z
axis-at s q (suc zero) h = refl
axis-at s q (suc (suc zero)) h = refl
axis-at s q (suc (suc (suc e))) h = absurd (omega arith)

-- so the coordinates of the shades of a list are those of the list
pub coordinate-read : (s : List ℕ) (i : ℕ) → coordinate_of (shade_at s) i ≡ get_or s i 0
coordinate-read s i =
    let z : 3 * (i / 3) + i % 3 ≡ i = omega arith in
    axis-at s (i / 3) (i % 3) (omega arith) ∙ ap (λ n. get_or s n 0) z

-- ---- the front of a list

-- a shade of the front is a shade of the whole
pub front-shade : (s : List ℕ) (k q : ℕ) → q < k → shade_at (take (3 * k) s) q ≡ shade_at s q
front-shade s k q h =
    rw (
      get_or-take (3 * k) s (3 * q) 0 (omega arith),
      get_or-take (3 * k) s (3 * q + 1) 0 (omega arith),
      get_or-take (3 * k) s (3 * q + 2) 0 (omega arith),
    )

-- the front of coordinates on the grid is on the grid
pub front_low : (s : List ℕ) (n : ℕ) → OnGrid s → OnGrid (take n s)
front_low s n low = take-at-most n most_coordinate s low

-- ---- shades laid in

module _ (k : ℕ) (f : ℕ → Point) (d : List ℕ) where
  -- a shade that was laid in is read back
  pub shade-laid : (q : ℕ) → q < k → 3 * k ≤ length d → shade_at (laid k f d) q ≡ f q
  shade-laid q h room =
      rw (
        fill-at (3 * k) (3 * q) (coordinate_of f) d (omega arith) (omega arith) ∙ first-coordinate f q,
        fill-at (3 * k) (3 * q + 1) (coordinate_of f) d (omega arith) (omega arith) ∙ coordinate-at f q 1 (omega arith),
        fill-at (3 * k) (3 * q + 2) (coordinate_of f) d (omega arith) (omega arith) ∙ coordinate-at f q 2 (omega arith),
      )

  -- coordinates on the grid stay there when shades of the grid are laid in
  pub laid-low : ((q : ℕ) → Within most_coordinate (f q)) → OnGrid d → OnGrid (laid k f d)
  laid-low w low =
      fill-at-most (3 * k) most_coordinate (coordinate_of f) d
      (λ n. axis-within most_coordinate (n % 3) (f (n / 3)) (w (n / 3))) low

  -- as many coordinates as before
  pub laid-length : length (laid k f d) ≡ length d
  laid-length = fill-length (3 * k) (coordinate_of f) d

-- a point stands where it stands
same-place-refl : (p : Point) → same_place p p ≡ true
same-place-refl p = simp (eq-eqb p.r p.r refl, eq-eqb p.g p.g refl, eq-eqb p.b p.b refl)

-- points with the same coordinates are one point
pub same-place-is : (p q : Point) → same_place p q ≡ true → p ≡ q
same-place-is p q e =
    let r = both (eqb p.r q.r) _ e in
    let g = both (eqb p.g q.g) _ r.1 in
    rw (eqb-true p.r q.r r.0, eqb-true p.g q.g g.0, eqb-true p.b q.b g.1)

-- two points have the same coordinates exactly where they are one point
pub same-place-exactly : (p q : Point) → (same_place p q ≡ true) ↔ (p ≡ q)
same-place-exactly p q = (same-place-is p q, λ e. ap (same_place p) (sym e) ∙ same-place-refl p)
