-- A shade at (a1/n, a2/n, a3/n), with whole n of at least 1 and whole a1, a2, a3, which may lie below 0.
use Rattle.std.specs.Prelude.{ℕ, ◌+◌, ◌*◌, ℤ, pos, nat_abs, ◌-ℤ◌}
use Rattle.number.specs.{sum}
use Rattle.colour.specs.{Point}
use Rattle.method.specs.Colouring.{Colours}

-- three whole numbers a1, a2, a3, of either sign
pub record SignedPoint : Type 0 where
  pub r : ℤ
  pub g : ℤ
  pub b : ℤ

-- those of a point, none of which is below 0
abbrev pub as_signed : Point → SignedPoint
as_signed p = record { r = pos p.r; g = pos p.g; b = pos p.b }

-- (n·coordinate - a)², for a coordinate x and a whole number a of either sign
abbrev pub off_square : ℕ → ℕ → ℤ → ℕ
off_square n x a = nat_abs (pos (n * x) -ℤ a) * nat_abs (pos (n * x) -ℤ a)

-- the weighted sum of (n·coordinate - a)² over the three coordinates: n² times what a shade at (a1/n, a2/n, a3/n) costs
abbrev pub fraction_cost : Colours → ℕ → SignedPoint → ℕ
fraction_cost C n a =
    sum C.n
    (λ i. C.w i
    * (off_square n (C.c i).r a.r + off_square n (C.c i).g a.g + off_square n (C.c i).b a.b))
