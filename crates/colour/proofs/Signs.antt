-- A difference of two coordinates as a signed number of 32 or 16 bits, and its square, which is `sq` of the two.
use Prim.Native.Nat.{ℕ, suc, ◌+◌, ◌-◌, ◌*◌, ◌^◌, ◌≤◌, ◌<◌}
use mathlib.Core.Path.{◌≡◌, sym, ap, ◌∙◌}
use native.Mathlib.Decide.{dec_le}
use native.Mathlib.Omega.{arith}
use lib.IntN.{
  ℤ,
  pos,
  negsuc,
  ◌-ℤ◌,
  ◌*ℤ◌,
  pos-+ℤ-pos,
  +ℤ-neg_ℤ_cancel,
  +ℤ_comm,
  pos-*ℤ-pos,
  negsuc-*ℤ-negsuc,
}
use lib.Signed.{mag}
use mir.Syntax.{Width, w16, w32}
use mir.Val.{SFits, hbits, of_z, to_z}
use mir.ValLaws.{to_z_pos, to_z-of_z}
use Rattle.number.specs.{gap, sq}
use Rattle.number.proofs.Squares.{sq-most}
use Rattle.colour.specs.Points.{most_coordinate}

-- ---- whole numbers with a sign

-- what is added and taken away again
difference-of-sum : (x y : ℕ) → pos (x + y) -ℤ pos y ≡ pos x
difference-of-sum x y = ap (λ t. t -ℤ pos y) (sym (pos-+ℤ-pos x y)) ∙ +ℤ-neg_ℤ_cancel (pos x) (pos y)

-- down to a lower number the difference has no sign
difference-down : (a b : ℕ) → b ≤ a → pos a -ℤ pos b ≡ pos (a - b)
difference-down a b h =
    let e : a ≡ a - b + b = omega arith in
    ap (λ t. pos t -ℤ pos b) e ∙ difference-of-sum (a - b) b

-- up to a higher number it has one
difference-up : (a b t : ℕ) → b ≡ a + suc t → pos a -ℤ pos b ≡ negsuc t
difference-up a b t e =
    let m : pos b -ℤ pos (suc t) ≡ pos a = ap (λ n. pos n -ℤ pos (suc t)) e ∙ difference-of-sum a (suc t) in
    ap (λ n. n -ℤ pos b) (sym (+ℤ_comm (negsuc t) (pos b) ∙ m)) ∙ +ℤ-neg_ℤ_cancel (negsuc t) (pos b)

-- d is n with or without a sign, and so its square is that of n
record Off (n : ℕ) (d : ℤ) : Type 0 where
  small : mag d ≤ n
  product : d *ℤ d ≡ pos (n * n)

-- the difference is the gap, with or without a sign
difference-off : (a b : ℕ) → Off (gap a b) (pos a -ℤ pos b)
difference-off a b = go (dec_le b a)
  where
    go : Dec (b ≤ a) → Off (gap a b) (pos a -ℤ pos b)
    go (yes h) =
        let e : a - b ≡ gap a b = omega arith in
        rw (difference-down a b h ∙ ap pos e) (record { small = omega arith; product = pos-*ℤ-pos _ _ })
    go (no h) =
        let t = b - a - 1 in
        let z : b ≡ a + suc t = omega arith in
        let e : gap a b ≡ suc t = omega arith in
        rw (difference-up a b t z, e) (record { small = omega arith; product = negsuc-*ℤ-negsuc t t })

-- ---- in the bits of the machine, for coordinates

-- a difference of two coordinates in a width that holds coordinates with a sign
module _ (w : Width) (wide : most_coordinate < 2 ^ hbits w) (a b : ℕ) (h : a ≤ most_coordinate)
    (g : b ≤ most_coordinate)
  where
    -- a coordinate is the same number with a sign and without, and so the difference is too
    difference-same : to_z w a -ℤ to_z w b ≡ pos a -ℤ pos b
    difference-same = rw (to_z_pos w a (omega (arith, wide)), to_z_pos w b (omega (arith, wide)))

    -- the difference fits
    pub difference-fits : SFits w (to_z w a -ℤ to_z w b)
    difference-fits = rw difference-same (record { sfits = omega (arith, wide, (difference-off a b).small) })

    -- what is read from its bits is the difference
    pub difference-read : to_z w (of_z w (to_z w a -ℤ to_z w b)) ≡ pos a -ℤ pos b
    difference-read = to_z-of_z w (to_z w a -ℤ to_z w b) difference-fits ∙ difference-same

module _ (a b : ℕ) (h : a ≤ most_coordinate) (g : b ≤ most_coordinate) where
  -- the square of the difference is `sq`
  square-of : (pos a -ℤ pos b) *ℤ (pos a -ℤ pos b) ≡ pos (sq a b)
  unfolding sq
  square-of = (difference-off a b).product

  -- the difference fits in 32 bits, from wherever it is read
  pub difference-fits-32 : SFits w32 (pos a -ℤ pos b)
  difference-fits-32 = record { sfits = omega (arith, (difference-off a b).small) }

  -- `sq` of two coordinates is at most the square of the greatest
  pub square-most : sq a b ≤ most_coordinate * most_coordinate
  square-most = sq-most a b most_coordinate h g

  -- `sq` is the same number with a sign and without
  pub square-same : to_z w32 (sq a b) ≡ pos (sq a b)
  square-same = to_z_pos w32 (sq a b) (omega (arith, square-most))

  -- the square of the difference in 32 bits is `sq`
  pub square-is :
      to_z w32 (of_z w32 (to_z w32 a -ℤ to_z w32 b)) *ℤ to_z w32 (of_z w32 (to_z w32 a -ℤ to_z w32 b)) ≡ pos (sq a b)
  square-is = rw (difference-read w32 (omega arith) a b h g) square-of

  -- so is that of the difference in 16 bits, widened to 32
  pub short-square-is :
      to_z w32 (of_z w32 (to_z w16 (of_z w16 (to_z w16 a -ℤ to_z w16 b))))
      *ℤ to_z w32 (of_z w32 (to_z w16 (of_z w16 (to_z w16 a -ℤ to_z w16 b)))) ≡ pos (sq a b)
  short-square-is =
      rw (difference-read w16 (omega arith) a b h g, to_z-of_z w32 (pos a -ℤ pos b) difference-fits-32) square-of
