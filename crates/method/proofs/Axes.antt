-- One coordinate at a time: the mean, Lloyd's rule, and a group's sums in sixteenths and in whole levels.
use Prim.Native.Nat.{ℕ, zero, suc, ◌*◌}
use mathlib.Core.Bool.{Bool, true, false, cond}
use mathlib.Core.List.{List}
use mathlib.Core.Path.{◌≡◌, refl, ap, ◌∙◌}
use native.Mathlib.Omega.{arith}
use lib.Dec.{eqb}
use lib.ListN.{get_or}
use Rattle.number.specs.{sum, S, rounded_mean}
use Rattle.number.proofs.Sums.{sum-mul}
use Rattle.colour.specs.{Point, red_of, green_of, blue_of, sixteenth}
use Rattle.shades.specs.{axis}
use Rattle.method.specs.Colouring.{
  Colours,
  colours_of,
  level_colours,
  on,
  pixels_in,
  sums_of,
  mean_of,
  group_of,
}
use Rattle.method.specs.Rules.{to_mean}

-- ---- a mean, or a point that stays

-- the mean on one coordinate
pub mean-axis : (G : Colours) (e : ℕ) → axis e (mean_of G) ≡ rounded_mean (pixels_in G) (axis e (sums_of G))
mean-axis G zero = refl
mean-axis G (suc zero) = refl
mean-axis G (suc (suc e)) = refl

-- the choice of a point, on one coordinate
pub choice-axis : (b : Bool) (e : ℕ) (p q : Point) → axis e (cond b p q) ≡ cond b (axis e p) (axis e q)
choice-axis true e p q = refl
choice-axis false e p q = refl

-- Lloyd's rule on one coordinate
pub to-mean-axis : (q : ℕ) (G : Colours) (z : Point) (e : ℕ)
    → axis e (to_mean q G z)
    ≡ cond (eqb (pixels_in G) 0) (axis e z) (rounded_mean (pixels_in G) (axis e (sums_of G)))
to-mean-axis q G z e =
    choice-axis (eqb (pixels_in G) 0) e z (mean_of G) ∙ ap (cond (eqb (pixels_in G) 0) (axis e z)) (mean-axis G e)

-- ---- a group's sums

-- the sum on one coordinate
pub sum-axis : (C : Colours) (e : ℕ) → axis e (sums_of C) ≡ S (on (axis e) C)
sum-axis C zero = refl
sum-axis C (suc zero) = refl
sum-axis C (suc (suc e)) = refl

-- the weighted sum of a level, in sixteenths
level-sixteenths : (n : ℕ) (w key f : ℕ → ℕ)
    → sum n (λ i. w i * sixteenth (f (key i))) ≡ sixteenth (sum n (λ i. w i * f (key i)))
level-sixteenths n w key f = sum-mul n 16 _ (λ i. w i * f (key i)) (λ i l. omega arith)

-- a group's sum of a coordinate is its sum of the level, in sixteenths
pub sums-in-sixteenths : (n : ℕ) (ks ws : List ℕ) (m : ℕ → ℕ) (q e : ℕ)
    → axis e (sums_of (group_of (colours_of n ks ws) m q))
    ≡ sixteenth (axis e (sums_of (group_of (level_colours n ks ws) m q)))
sums-in-sixteenths n ks ws m q zero = level-sixteenths n _ (λ i. get_or ks i 0) red_of
sums-in-sixteenths n ks ws m q (suc zero) = level-sixteenths n _ (λ i. get_or ks i 0) green_of
sums-in-sixteenths n ks ws m q (suc (suc e)) = level-sixteenths n _ (λ i. get_or ks i 0) blue_of
