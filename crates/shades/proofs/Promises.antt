-- What is shown of shades, for whoever cites it. Each body names the proof.
use Prim.Native.Nat.{ℕ, ◌*◌, ◌/◌, ◌≤◌, ◌<◌}
use mathlib.Core.Bool.{true, false}
use mathlib.Core.List.{List}
use mathlib.Core.Logic.{◌↔◌}
use mathlib.Core.Path.{◌≡◌}
use Rattle.number.specs.{Best}
use Rattle.number.proofs.Promises.{least-is-best, best-is-least}
use Rattle.colour.specs.{Point}
use Rattle.shades.specs.Places.{most_shades, same_place, OnGrid}
use Rattle.shades.specs.Distances.{to_shade, nearest_shade, LookedAt, worked, pack, packed_nearest}
use Rattle.shades.specs.Tests.{bad_coordinates, bad_centre}
use Rattle.shades.proofs.Laying as laying
use Rattle.shades.proofs.Nearest as nearest
use Rattle.shades.proofs.Checks as checks

-- ---- the nearest shade

-- The nearest shade is one of the k; none is nearer, and every lower number is strictly farther.
pub nearest-is-least : (s : List ℕ) (k : ℕ) (c : Point) → 0 < k
    → Best (λ a b. a < b) (λ q. q < k) (to_shade s c) (nearest_shade s k c) (to_shade s c (nearest_shade s k c))
nearest-is-least s k c h = least-is-best k (to_shade s c) h

-- It is the only such.
pub nearest-only : (s : List ℕ) (k : ℕ) (c : Point) → 0 < k → {m d : ℕ}
    → Best (λ a b. a < b) (λ q. q < k) (to_shade s c) m d → m ≡ nearest_shade s k c
nearest-only s k c h b = best-is-least k (to_shade s c) h b

-- The shortened search looks at the former shade p and at each q that document 01 has it try: whichever of these is
-- the nearest, the lowest number at a tie, is the nearest of all.
pub shortened-is-full : (s : List ℕ) (k : ℕ) (c : Point) (p : ℕ) → p < k → {m d : ℕ}
    → Best (λ a b. a < b) (LookedAt s k c p) (to_shade s c) m d → m ≡ nearest_shade s k c
shortened-is-full = nearest.shortened-is-full

-- From one of the k shades it works out at most k distances: never more than the plain search.
pub worked-at-most-all : (s : List ℕ) (k : ℕ) (c : Point) (p : ℕ) → p < k → worked s k c p ≤ k
worked-at-most-all = nearest.worked-at-most-all

-- The least of the packed numbers is the nearest shade's.
pub packed-least : (s : List ℕ) (k : ℕ) (c : Point) → 0 < k → k ≤ most_shades → (q : ℕ) → q < k
    → packed_nearest s k c ≤ pack s c q
packed-least = nearest.packed-least

-- ---- lent coordinates

-- Two shades stand in the same place exactly where all three coordinates agree: what "moved" counts.
pub same-place-exactly : (p q : Point) → (same_place p q ≡ true) ↔ (p ≡ q)
same-place-exactly = laying.same-place-exactly

-- The test of BAD COUNT fails exactly for three coordinates for each of 1 to 64 shades.
pub bad-coordinates-exactly : (n : ℕ)
    → (bad_coordinates n ≡ false) ↔ ((1 ≤ n / 3) × (n / 3 ≤ most_shades) × (n ≡ 3 * (n / 3)))
bad-coordinates-exactly = checks.bad-coordinates-exactly

-- The test of BAD CENTRE fails exactly where no coordinate is above 4080.
pub bad-centre-exactly : (s : List ℕ) → (bad_centre s ≡ false) ↔ OnGrid s
bad-centre-exactly = checks.bad-centre-exactly
