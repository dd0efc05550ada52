-- The least that several groups could cost with fractional shades: the sum of Q - (S1² + S2² + S3²)/W over those that
-- are not empty, as a fraction of whole numbers. Empty groups cost nothing.
use Rattle.std.specs.Prelude.{ℕ, ◌+◌, ◌*◌, ◌≤◌, ◌<◌, cond, List, [], ◌∷◌, ◌≡◌, eqb}
use Rattle.method.specs.Colouring.{Colours, pixels_in, least_of}

-- the number top / under
pub record Fraction : Type 0 where
  pub top : ℕ
  pub under : ℕ

-- the fraction a / b and another, added up
abbrev pub plus : ℕ → ℕ → Fraction → Fraction
plus a b f = record { top = a * f.under + f.top * b; under = b * f.under }

-- the least costs of the groups with these numbers, added up
abbrev pub least_sum : (ℕ → Colours) → List ℕ → Fraction
least_sum G [] = record { top = 0; under = 1 }
least_sum G (q ∷ qs) =
    cond (eqb (pixels_in (G q)) 0) (least_sum G qs) (plus (least_of (G q)) (pixels_in (G q)) (least_sum G qs))

-- every number of a list is at least f
abbrev pub From : ℕ → List ℕ → Type 0
From f [] = Unit
From f (q ∷ qs) = (f ≤ q) × From f qs

-- a group's cost, bounded from both sides by its least: never below it, and above it by at most three quarters a pixel
pub record Bounded (C : Colours) (cost : ℕ) : Type 0 where
  pub at_least : least_of C ≤ pixels_in C * cost
  pub at_most : 4 * (pixels_in C * cost) ≤ 4 * least_of C + 3 * (pixels_in C * pixels_in C)
  pub empty : pixels_in C ≡ 0 → cost ≡ 0

-- the costs of several groups, added up, against the sum of their leasts
pub record SumBounded (least : Fraction) (pixels cost : ℕ) : Type 0 where
  pub whole : 0 < least.under
  pub at_least : least.top ≤ least.under * cost
  pub at_most : 4 * (least.under * cost) ≤ 4 * least.top + 3 * (least.under * pixels)
