-- The bounds of several groups, added up: what holds of each, times 4W, holds of the sum as a fraction.
use mathlib.Core.Bool.{Bool, true, false, cond}
use mathlib.Core.List.{List, [], ◌∷◌}
use mathlib.Core.Path.{◌≡◌, refl}
use Prim.Native.Nat.{ℕ, ◌+◌, ◌≤◌, ◌<◌}
use native.Mathlib.Nat.{mul-le-mul_left, pos_of_ne-zero}
use native.Mathlib.Omega.{arith}
use lib.Dec.{eqb}
use borrow.Author.Tests.{eqb-true, eqb-false}
use Rattle.number.specs.{sum_of}
use Rattle.method.specs.Colouring.{Colours, pixels_in, least_of}
use Rattle.method.specs.Leasts.{Fraction, plus, least_sum, From, Bounded, SumBounded}

-- one group more, which is not empty
sum-bounded-more : (C : Colours) (k : ℕ) (least : Fraction) (pixels cost : ℕ) → 0 < pixels_in C → Bounded C k
    → SumBounded least pixels cost
    → SumBounded (plus (least_of C) (pixels_in C) least) (pixels_in C + pixels) (k + cost)
sum-bounded-more C k least pixels cost pos b s =
    let w = pixels_in C in
    let u = least.under in
    record {
      whole = omega (arith, mul-le-mul_left w s.whole);
      at_least = omega (arith, mul-le-mul_left u b.at_least, mul-le-mul_left w s.at_least);
      at_most = omega (arith, mul-le-mul_left u b.at_most, mul-le-mul_left w s.at_most);
    }

-- every number is at least 0
pub from_zero_lem : (qs : List ℕ) → From 0 qs
from_zero_lem [] = tt
from_zero_lem (q ∷ qs) = (omega arith, from_zero_lem qs)

-- groups from number f on that are bounded each are bounded in sum
pub sum-bounded : (f : ℕ) (G : ℕ → Colours) (cost : ℕ → ℕ) (qs : List ℕ) → From f qs
    → ((q : ℕ) → f ≤ q → Bounded (G q) (cost q))
    → SumBounded (least_sum G qs) (sum_of (λ q. pixels_in (G q)) qs) (sum_of cost qs)
sum-bounded f G cost [] free each = record { whole = omega arith; at_least = omega arith; at_most = omega arith }
sum-bounded f G cost (q ∷ qs) free each =
    go (eqb (pixels_in (G q)) 0) refl (sum-bounded f G cost qs free.1 each)
  where
    go : (t : Bool) → eqb (pixels_in (G q)) 0 ≡ t
        → SumBounded (least_sum G qs) (sum_of (λ p. pixels_in (G p)) qs) (sum_of cost qs)
        → SumBounded (cond t (least_sum G qs) (plus (least_of (G q)) (pixels_in (G q)) (least_sum G qs)))
        (pixels_in (G q) + sum_of (λ p. pixels_in (G p)) qs) (cost q + sum_of cost qs)
    go true e s =
        let none = eqb-true (pixels_in (G q)) 0 e in
        let nothing = (each q free.0).empty none in
        let p : pixels_in (G q) + sum_of (λ p. pixels_in (G p)) qs ≡ sum_of (λ p. pixels_in (G p)) qs = omega arith in
        let k : cost q + sum_of cost qs ≡ sum_of cost qs = omega arith in
        rw (p, k) s
    go false e s =
        sum-bounded-more (G q) (cost q) (least_sum G qs) (sum_of (λ p. pixels_in (G p)) qs) (sum_of cost qs)
        (pos_of_ne-zero (eqb-false (pixels_in (G q)) 0 e)) (each q free.0) s
