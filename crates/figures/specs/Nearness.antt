-- What it means that a binary64 number is the nearest to a fraction.
use Rattle.std.specs.Prelude.{ℕ, ◌*◌, ◌≤◌, ◌<◌, false, T, Float}
use Rattle.std.specs.Float.{binary64}
use Rattle.std.specs.Float.Ieee.{fits}
use Rattle.std.specs.Float.Ieee.Exact.{HasValue}
use Rattle.number.specs.{gap}

-- y is a binary64 number, not negative, of the value top / bottom, and no binary64 number that is not negative is
-- nearer to e / n: the two differences are compared times n, c and bottom, so that all is in whole numbers
pub record NearestTo (y : Float) (e n : ℕ) : Type 0 where
  pub holds : T (fits binary64 y)
  pub top : ℕ
  pub bottom : ℕ
  pub positive : 0 < bottom
  pub value : HasValue y false top bottom
  pub nearest : (x : Float) (a c : ℕ) → T (fits binary64 x) → 0 < c → HasValue x false a c
      → c * gap (top * n) (e * bottom) ≤ bottom * gap (a * n) (e * c)
