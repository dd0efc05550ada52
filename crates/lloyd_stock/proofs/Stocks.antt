-- Where fixed shades stand: their levels in sixteenths, on the grid, each where the colour of its key stands; and the
-- front of a list that they are laid into.
use Prim.Native.Nat.{ℕ, ◌+◌, ◌*◌, ◌/◌, ◌≤◌, ◌<◌}
use mathlib.Core.List.{List}
use mathlib.Core.Path.{◌≡◌, sym, ap, ◌∙◌}
use native.Mathlib.Omega.{arith}
use lib.ListN.{get_or, length, take, length-map, get_or-map}
use lib.Seq.{ext_get_or, get_or-take, length-take-le}
use Rattle.number.specs.{fill}
use Rattle.number.proofs.Fills.{fill-at, fill-length}
use Rattle.colour.specs.{Bytes, Levels, most_key, sixteenth, colour_of}
use Rattle.colour.proofs.Promises.{key-most, levels-of-key}
use Rattle.shades.specs.{shade_at, OnGrid}
use Rattle.method.specs.{listed}
use Rattle.lloyd_stock.specs.Stock.{fixed_in, stock}
use Rattle.lloyd_stock.specs.Keys.{fixed_key}

module _ (fixed : List ℕ) where
  -- a coordinate is the level at its place in sixteenths; past the end stand zeros
  pub stock-place : (i : ℕ) → get_or (stock fixed) i 0 ≡ sixteenth (get_or fixed i 0)
  stock-place i = get_or-map sixteenth fixed i 0

  -- there is a coordinate for each byte
  pub stock-length : length (stock fixed) ≡ length fixed
  stock-length = length-map fixed sixteenth

  -- so as many shades are given as are fixed
  pub stock-given : (listed (stock fixed)).given ≡ fixed_in fixed
  stock-given = ap (λ n. n / 3) stock-length

  -- a list into whose front the levels are laid, in sixteenths, has the stock in front
  pub stock-laid : (b : List ℕ) → length fixed ≤ length b
      → take (length fixed) (fill (length fixed) (λ i. sixteenth (get_or fixed i 0)) b) ≡ stock fixed
  stock-laid b room =
      ext_get_or 0 (take n filled) (stock fixed) (front ∙ sym stock-length)
      (λ i l. let h : i < n = rw front at l in
      get_or-take n filled i 0 h ∙ fill-at n i level b h (omega arith) ∙ sym (stock-place i))
    where
      n : ℕ
      n = length fixed

      level : ℕ → ℕ
      level i = sixteenth (get_or fixed i 0)

      filled : List ℕ
      filled = fill n level b

      front : length (take n filled) ≡ n
      front = length-take-le n filled (omega (arith, fill-length n level b))

  module _ (bytes : Bytes fixed) where
    -- no coordinate is above 4080
    pub stock-low : OnGrid (stock fixed)
    stock-low i = omega (arith, stock-place i, bytes i)

    -- the three bytes of a fixed shade are levels
    fixed-levels : (q : ℕ) → Levels (get_or fixed (3 * q) 0) (get_or fixed (3 * q + 1) 0) (get_or fixed (3 * q + 2) 0)
    fixed-levels q = record {
      red_low = omega (arith, bytes (3 * q));
      green_low = omega (arith, bytes (3 * q + 1));
      blue_low = omega (arith, bytes (3 * q + 2));
    }

    -- so their key is that of a colour
    pub fixed-key-most : (q : ℕ) → fixed_key fixed q ≤ most_key
    fixed-key-most q = key-most _ _ _ (fixed-levels q)

    -- and the shade stands where that colour stands
    pub stock-at : (q : ℕ) → shade_at (stock fixed) q ≡ colour_of (fixed_key fixed q)
    stock-at q =
        let z = levels-of-key _ _ _ (fixed-levels q) in
        rw (z.0, z.1, z.2, stock-place (3 * q), stock-place (3 * q + 1), stock-place (3 * q + 2))
