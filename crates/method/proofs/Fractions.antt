-- A shade at a fraction of whole numbers of either sign: at or above 0 it is one of natural numbers; below 0 on some
-- coordinate it costs no less than at 0 there.
use mathlib.Core.Path.{◌≡◌, ap, ◌∙◌}
use Prim.Native.Nat.{ℕ, suc, ◌+◌, ◌*◌, ◌≤◌}
use native.Mathlib.Nat.{le_trans, mul-le-mul, mul-le-mul_left}
use native.Mathlib.Omega.{arith}
use lib.IntN.{ℤ, pos, negsuc}
use Rattle.number.specs.{gap, sq}
use Rattle.number.proofs.Squares.{difference-is-gap}
use Rattle.number.proofs.Sums.{sum-eq, sum-le}
use Rattle.colour.specs.{Point, distance}
use Rattle.method.specs.Colouring.{Colours, pixels_in, sums_of, least_of, cost_at, drawn}
use Rattle.method.specs.Fractions.{SignedPoint, as_signed, off_square, fraction_cost}
use Rattle.method.proofs.Costs.{fraction-at-least, fraction-exactly}

-- off a number that is not below 0 the square is `sq`
square-natural : (n x m : ℕ) → off_square n x (pos m) ≡ sq (n * x) m
unfolding sq
square-natural n x m = ap (λ t. t * t) (difference-is-gap (n * x) m)

-- a whole number, or 0 where it is below 0
abbrev from_zero : ℤ → ℕ
from_zero (pos m) = m
from_zero (negsuc m) = 0

-- off a number below 0 it is no less than off 0
square-from-zero : (n x : ℕ) (a : ℤ) → sq (n * x) (from_zero a) ≤ off_square n x a
unfolding sq
square-from-zero n x (pos m) = omega (arith, square-natural n x m)
square-from-zero n x (negsuc m) = let near : gap (n * x) 0 ≤ n * x + suc m = omega arith in mul-le-mul near near

module _ (C : Colours) where
  -- a shade at natural numbers over n is a shade of the colours drawn n times as large
  fraction-natural : (n : ℕ) (p : Point) → fraction_cost C n (as_signed p) ≡ cost_at (drawn n C) p
  unfolding distance
  fraction-natural n p =
      sum-eq C.n _ _
      (λ i l. rw (
        square-natural n (C.c i).r p.r,
        square-natural n (C.c i).g p.g,
        square-natural n (C.c i).b p.b,
      ))

  -- one below 0 costs no less than one at 0
  fraction-from-zero : (n : ℕ) (a : SignedPoint)
      → cost_at (drawn n C) (record { r = from_zero a.r; g = from_zero a.g; b = from_zero a.b })
      ≤ fraction_cost C n a
  unfolding distance
  fraction-from-zero n a =
      sum-le C.n _ _
      (λ i l. mul-le-mul_left (C.w i)
      (omega (
        arith,
        square-from-zero n (C.c i).r a.r,
        square-from-zero n (C.c i).g a.g,
        square-from-zero n (C.c i).b a.b,
      )))

  -- no shade at a / n costs less than the least, both times W and n²
  pub signed-fraction-at-least : (n : ℕ) (a : SignedPoint) → n * n * least_of C ≤ pixels_in C * fraction_cost C n a
  signed-fraction-at-least n a =
      le_trans (fraction-at-least C n _) (mul-le-mul_left (pixels_in C) (fraction-from-zero n a))

  -- the true mean costs just the least, both times W and W²
  pub signed-fraction-exactly : pixels_in C * fraction_cost C (pixels_in C) (as_signed (sums_of C))
      ≡ pixels_in C * pixels_in C * least_of C
  signed-fraction-exactly =
      ap (λ t. pixels_in C * t) (fraction-natural (pixels_in C) (sums_of C)) ∙ fraction-exactly C
