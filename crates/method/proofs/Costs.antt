-- What a shade costs weighted colours: the laws of one coordinate, added up over the three.
use mathlib.Core.Bool.{Bool, true, false, cond}
use mathlib.Core.Path.{◌≡◌, refl, ap, ◌∙◌}
use Prim.Native.Nat.{ℕ, ◌+◌, ◌*◌, ◌≤◌, ◌<◌}
use native.Mathlib.Nat.{mul-sub, pos_of_ne-zero}
use native.Mathlib.Omega.{arith}
use lib.Dec.{eqb}
use borrow.Author.Tests.{eq-eqb, ne_eqb, eqb-true, eqb-false}
use Rattle.number.specs.{sq, cost}
use Rattle.number.proofs.Costs.{cauchy, cost-parts}
use Rattle.number.proofs.Fractions.{fraction-exact, fraction-parts}
use Rattle.number.proofs.Means.{mean-best, mean-bound, mean-fits}
use Rattle.number.proofs.Sums.{sum-add, sum-none}
use Rattle.colour.specs.{Point, Within, distance, most_coordinate}
use Rattle.colour.proofs.Distances.{each}
use Rattle.method.specs.Colouring.{
  Colours,
  on,
  pixels_in,
  sums_of,
  squares_of,
  squared,
  least_of,
  cost_at,
  mean_of,
  drawn,
}
use Rattle.method.specs.Rules.{to_mean, GoodRule, Means}

-- a shade costs what its three coordinates cost
cost-coordinates : (C : Colours) (z : Point)
    → cost_at C z ≡ cost (on (λ p. p.r) C) z.r + cost (on (λ p. p.g) C) z.g + cost (on (λ p. p.b) C) z.b
unfolding distance
cost-coordinates C z =
    sum-add C.n _ (λ i. C.w i * (sq (C.c i).r z.r + sq (C.c i).g z.g)) _ (λ i l. omega arith)
    ∙ ap (λ t. t + cost (on (λ p. p.b) C) z.b) (sum-add C.n _ _ _ (λ i l. omega arith))

module _ (C : Colours) where
  -- where each coordinate costs no more, a shade costs no more
  pub costs-no-more : (y z : Point) → cost (on (λ p. p.r) C) y.r ≤ cost (on (λ p. p.r) C) z.r
      → cost (on (λ p. p.g) C) y.g ≤ cost (on (λ p. p.g) C) z.g
      → cost (on (λ p. p.b) C) y.b ≤ cost (on (λ p. p.b) C) z.b → cost_at C y ≤ cost_at C z
  costs-no-more y z r g b = omega (arith, cost-coordinates C y, cost-coordinates C z, r, g, b)

  -- colours that weigh nothing cost nothing
  pub empty-costs-nothing : pixels_in C ≡ 0 → (z : Point) → cost_at C z ≡ 0
  empty-costs-nothing e z = sum-none C.n C.w (λ i. distance (C.c i) z) e

  -- the least is a true difference
  pub least-is-difference : least_of C + squared (sums_of C) ≡ pixels_in C * squares_of C
  least-is-difference = omega (arith, each (λ f. cauchy (on f C)))

  -- no whole shade costs less than the rounded mean
  mean-costs-least : 0 < pixels_in C → (z : Point) → cost_at C (mean_of C) ≤ cost_at C z
  mean-costs-least pos z =
      costs-no-more (mean_of C) z (mean-best (on (λ p. p.r) C) pos z.r) (mean-best (on (λ p. p.g) C) pos z.g)
      (mean-best (on (λ p. p.b) C) pos z.b)

  -- no whole shade costs less than the least, both times W
  pub cost-at-least : (z : Point) → least_of C ≤ pixels_in C * cost_at C z
  cost-at-least z =
      omega (
        arith,
        ap (λ t. pixels_in C * t) (cost-coordinates C z),
        each (λ f. cost-parts (on f C) (f z)),
      )

  -- the rounded mean costs at most the least and three quarters for each pixel, both times 4W
  pub mean-cost-at-most : 0 < pixels_in C
      → 4 * (pixels_in C * cost_at C (mean_of C)) ≤ 4 * least_of C + 3 * (pixels_in C * pixels_in C)
  mean-cost-at-most pos =
      omega (
        arith,
        ap (λ t. pixels_in C * t) (cost-coordinates C (mean_of C)),
        each (λ f. cauchy (on f C)),
        mean-bound (on (λ p. p.r) C) pos,
        mean-bound (on (λ p. p.g) C) pos,
        mean-bound (on (λ p. p.b) C) pos,
      )

  -- a shade at a / n costs no less than the least, both times W and n²
  pub fraction-at-least : (n : ℕ) (a : Point) → n * n * least_of C ≤ pixels_in C * cost_at (drawn n C) a
  fraction-at-least n a =
      rw mul-sub
      (omega (
        arith,
        ap (λ t. pixels_in C * t) (cost-coordinates (drawn n C) a),
        each (λ f. fraction-parts (on f C) n (f a)),
      ))

  -- the true mean costs just the least, both times W and W²
  pub fraction-exactly : pixels_in C * cost_at (drawn (pixels_in C) C) (sums_of C) ≡ pixels_in C * pixels_in C *
      least_of C
  fraction-exactly =
      rw mul-sub
      (omega (
        arith,
        ap (λ t. pixels_in C * t) (cost-coordinates (drawn (pixels_in C) C) (sums_of C)),
        each (λ f. fraction-exact (on f C)),
      ))

  -- the rounded mean of colours on the grid is on the grid
  pub mean-within : (m : ℕ) → ((i : ℕ) → Within m (C.c i)) → 0 < pixels_in C → Within m (mean_of C)
  mean-within m h pos = record {
    r_low = mean-fits (on (λ p. p.r) C) pos m (λ i l. (h i).r_low);
    g_low = mean-fits (on (λ p. p.g) C) pos m (λ i l. (h i).g_low);
    b_low = mean-fits (on (λ p. p.b) C) pos m (λ i l. (h i).b_low);
  }

-- ---- rules by which a shade with no group stays

-- what holds of a shade that stays, where the group is empty, and of where it goes, where it is not, holds of where the
-- rule puts it
pub put-by-group : (P : Point → Type 0) (G : Colours) (z there : Point) → (pixels_in G ≡ 0 → P z)
    → (0 < pixels_in G → P there) → P (cond (eqb (pixels_in G) 0) z there)
put-by-group P G z there stays goes = by (eqb (pixels_in G) 0) refl
  where
    by : (t : Bool) → eqb (pixels_in G) 0 ≡ t → P (cond t z there)
    by true e = stays (eqb-true (pixels_in G) 0 e)
    by false e = goes (pos_of_ne-zero (eqb-false (pixels_in G) 0 e))

-- ---- Lloyd's rule

-- a shade with a group goes to its rounded mean
pub to-mean-moves : (q : ℕ) (G : Colours) (z : Point) → 0 < pixels_in G → to_mean q G z ≡ mean_of G
to-mean-moves q G z pos = rw (ne_eqb (pixels_in G) 0 (λ e. omega arith))

-- a shade with no group stays
pub to-mean-stays : (q : ℕ) (G : Colours) (z : Point) → pixels_in G ≡ 0 → to_mean q G z ≡ z
to-mean-stays q G z e = rw (eq-eqb (pixels_in G) 0 e)

-- whatever place a shade could have, its group costs no more where Lloyd's rule puts it
pub to-mean-least : (q : ℕ) (G : Colours) (y z : Point) → cost_at G (to_mean q G y) ≤ cost_at G z
to-mean-least q G y z =
    put-by-group (λ p. cost_at G p ≤ cost_at G z) G y (mean_of G) (λ e. omega (arith, empty-costs-nothing G e y))
    (λ pos. mean-costs-least G pos z)

-- where neither the shade nor a colour is above m, it does not go above m
pub to-mean-within : (m q : ℕ) (G : Colours) (z : Point) → ((i : ℕ) → Within m (G.c i)) → Within m z
    → Within m (to_mean q G z)
to-mean-within m q G z h w = put-by-group (Within m) G z (mean_of G) (λ e. w) (mean-within G m h)

-- so it costs the group no more than staying; and it keeps to the grid
pub to-mean-good : GoodRule to_mean
to-mean-good = record {
  no_dearer = λ q G z. to-mean-least q G z z;
  keeps = to-mean-within most_coordinate;
}

-- it goes to the mean from shade 0 on
pub to-mean-means : Means 0 to_mean
to-mean-means = record { means = λ q G z free. refl }
