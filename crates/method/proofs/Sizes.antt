-- What a table's colours are at most: weights, totals and distances.
use mathlib.Core.List.{List}
use mathlib.Core.Path.{refl}
use Prim.Native.Nat.{ℕ, ◌+◌, ◌*◌, ◌≤◌, ◌<◌}
use native.Mathlib.Nat.{mul-le-mul_left}
use native.Mathlib.Omega.{arith}
use lib.ListN.{get_or}
use Rattle.number.specs.{sum}
use Rattle.number.proofs.Sums.{sum-le, sum_bound, sum-mul, sum-part, sum-term}
use Rattle.colour.specs.{most_pixels, most_distance}
use Rattle.colour.proofs.Distances.{colour-within}
use Rattle.table_entries.specs.{Tabled, most_entries}
use Rattle.shades.specs.{most_shades, OnGrid, to_shade, worked}
use Rattle.shades.proofs.Laying.{to-shade-most}
use Rattle.shades.proofs.Nearest.{worked-at-most, worked-at-most-all}
use Rattle.method.specs.Colouring.{Colours, colours_of, Fair}
use Rattle.method.specs.Rounding.{State, plain_distances, short_distances, Joined}

-- the colours of a table that lies in two slices are fair
pub fair-of-table : {n : ℕ} {ks ws : List ℕ} → Tabled n ks ws → Fair (colours_of n ks ws)
fair-of-table {n} {ks} {ws} t = record {
  pixels = t.pixels;
  few = t.few;
  inside = λ i. colour-within (get_or ks i 0);
}

-- where the members are numbers of shades, a shortened round works out no more distances than a plain one
pub short-at-most-plain : (C : Colours) (k : ℕ) (a : State) → Joined C k a
    → short_distances C k a ≤ plain_distances C k a
short-at-most-plain C k a joined =
    sum-le C.n _ _ (λ i l. worked-at-most-all a.coordinates k (C.c i) (get_or a.members i 0) (joined i l))

module _ (C : Colours) (f : Fair C) where
  -- a weight is at most all pixels
  pub weight-at-most : (i : ℕ) → i < C.n → C.w i ≤ most_pixels
  weight-at-most i h = omega (arith, sum-term i C.n C.w h, f.pixels)

  -- weight times distance, added up over the first colours with whatever shades, is at most all pixels times the
  -- greatest distance
  pub spent-at-most : (s : List ℕ) → OnGrid s → (m : ℕ → ℕ) (i : ℕ) → i ≤ C.n
      → sum i (λ j. C.w j * to_shade s (C.c j) (m j)) ≤ most_pixels * most_distance
  spent-at-most s low m i h =
      omega (
        arith,
        sum-le i (λ j. C.w j * to_shade s (C.c j) (m j)) (λ j. most_distance * C.w j)
            (λ j l. omega (arith, mul-le-mul_left (C.w j) (to-shade-most s (C.c j) (m j) low (f.inside j)))),
        sum-mul i most_distance (λ j. most_distance * C.w j) C.w (λ j l. refl),
        sum-part i C.n C.w h,
        f.pixels,
      )

  -- a shortened round works out at most 65 distances for each entry of a full table
  pub short-at-most : (k : ℕ) (a : State) → k ≤ most_shades → short_distances C k a ≤ most_entries * (most_shades + 1)
  short-at-most k a h =
      omega (
        arith,
        sum_bound C.n (most_shades + 1) (λ i. worked a.coordinates k (C.c i) (get_or a.members i 0))
            (λ i l. omega (arith, worked-at-most a.coordinates k (C.c i) (get_or a.members i 0))),
        f.few,
      )
