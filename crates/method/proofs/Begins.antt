-- The state in which a run begins is fit for a round, and every member is shade 0.
use Prim.Native.Nat.{ℕ, ◌+◌, ◌*◌, ◌≤◌, ◌<◌}
use mathlib.Core.List.{List}
use mathlib.Core.Path.{◌≡◌, sym, ◌∙◌}
use native.Mathlib.Omega.{arith}
use lib.ListN.{get_or, length, replicate, length-replicate}
use Rattle.number.proofs.Fills.{fill-at, fill-length, fill-kept, zeros-at}
use Rattle.colour.specs.{Within, most_coordinate}
use Rattle.shades.specs.{most_shades, most_coordinates, shade_at}
use Rattle.method.specs.Colouring.{Colours, pixels_in, mean_of, Fair}
use Rattle.method.specs.Rounding.{Fit, Joined}
use Rattle.method.specs.Starting.{Base, flat, next_shade, starts_from, on_mean}
use Rattle.method.specs.Running.{begin_from}
use Rattle.method.proofs.Costs.{mean-within}
use Rattle.method.proofs.Startings.{
  over-length,
  over-at,
  over-kept,
  over-low,
  starts-length,
  shade-of-starts,
  starts-low,
  flat-low,
  listed-within,
}

module _ (B : Base) (C : Colours) (k : ℕ) (members : List ℕ) where
  -- where the given shades stand on the grid, the starts do
  pub begin-from-fit : ((q : ℕ) → Within most_coordinate (B.at q)) → Fair C → 0 < k → k ≤ most_shades
      → C.n ≤ length members → Fit C k (begin_from B C k members)
  begin-from-fit low fair some few room = record {
    some = some;
    shades = record {
      few = few;
      room = rw (over-length (starts_from B C.n C.c k) (replicate most_coordinates 0))
          (simp length-replicate (omega arith));
      low = over-low (starts_from B C.n C.c k) (replicate most_coordinates 0)
          (starts-low B C.n C.c k low fair.inside)
          (λ i. omega (arith, zeros-at most_coordinates i));
    };
    room = rw (fill-length C.n (λ i. 0) members) room;
  }

  -- every colour is in shade 0
  pub begin-joined : 0 < k → C.n ≤ length members → Joined C k (begin_from B C k members)
  begin-joined some room i h = rw (fill-at C.n i (λ j. 0) members h (omega arith)) some

  -- past the starts stand zeros
  pub begin-past : (i : ℕ) → 3 * k ≤ i → get_or (begin_from B C k members).coordinates i 0 ≡ 0
  begin-past i h =
      over-kept (starts_from B C.n C.c k) (replicate most_coordinates 0) i
      (omega (arith, starts-length B C.n C.c k))
      ∙ zeros-at most_coordinates i

  -- members past the used entries stay
  pub begin-kept : (i : ℕ) → C.n ≤ i → get_or (begin_from B C k members).members i 0 ≡ get_or members i 0
  begin-kept i h = fill-kept C.n i (λ j. 0) members h

  -- a start is read back
  pub start-stored : (q : ℕ) → k ≤ most_shades → q < k
      → shade_at (begin_from B C k members).coordinates q
      ≡ next_shade B C.n C.c q (starts_from B C.n C.c q)
  start-stored q few h =
      rw (place (3 * q) (omega arith), place (3 * q + 1) (omega arith), place (3 * q + 2) (omega arith))
      (shade-of-starts B C.n C.c k q h)
    where
      place : (i : ℕ) → i < 3 * k
          → get_or (begin_from B C k members).coordinates i 0 ≡ get_or (starts_from B C.n C.c k) i 0
      place i l =
          over-at (starts_from B C.n C.c k) (replicate most_coordinates 0) i
          (omega (arith, starts-length B C.n C.c k)) (simp length-replicate (omega arith))

  -- the first q of them are the q starts
  pub starts-stored : (q : ℕ) → k ≤ most_shades → q ≤ k → (p : ℕ) → p < q
      → shade_at (starts_from B C.n C.c q) p ≡ shade_at (begin_from B C k members).coordinates p
  starts-stored q few h p l = shade-of-starts B C.n C.c q p l ∙ sym (start-stored p few (omega arith))

-- the mean of a table with a pixel is on the grid
pub mean-low : (C : Colours) → Fair C → 0 < pixels_in C → (q : ℕ) → Within most_coordinate ((on_mean C).at q)
mean-low C fair pixels =
    listed-within (flat (mean_of C)) (flat-low (mean_of C) (mean-within C most_coordinate fair.inside pixels))
