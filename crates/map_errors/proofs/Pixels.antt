-- Pixels of a strip: on the grid, those of a part of the strip, and those of two strips joined.
use Prim.Native.Nat.{ℕ, ◌+◌, ◌-◌, ◌*◌, ◌≤◌, ◌<◌}
use mathlib.Core.List.{List, ◌++◌}
use mathlib.Core.Path.{◌≡◌, ap, ◌∙◌}
use native.Mathlib.Omega.{arith}
use lib.ListN.{length, get_or, get_or-append}
use lib.Seq.{get_or-append-add}
use borrow.Rule.Slice.PartMut.{mid_of}
use Rattle.number.proofs.Parts.{part_at}
use Rattle.colour.specs.{Within, Bytes, most_level}
use Rattle.search_all.specs.{PointsOnGrid}
use Rattle.map_errors.specs.Missing.{pixel_at}

-- no level of a pixel is above that of a byte
pub pixel-within : (strip : List ℕ) (i : ℕ) → Bytes strip → Within most_level (pixel_at strip i)
pixel-within strip i bytes =
    let low : (j : ℕ) → get_or strip j 0 ≤ most_level = λ j. omega (arith, bytes j) in
    record { r_low = low (3 * i); g_low = low (3 * i + 1); b_low = low (3 * i + 2) }

-- so pixels are points of the grid
pub pixels-on-grid : (strip : List ℕ) (n : ℕ) → Bytes strip → PointsOnGrid n (pixel_at strip)
pixels-on-grid strip n bytes i l =
    let w = pixel-within strip i bytes in
    record {
      r_low = omega (arith, w.r_low);
      g_low = omega (arith, w.g_low);
      b_low = omega (arith, w.b_low);
    }

-- pixels whose bytes are equal are one
pixel-same : (s t : List ℕ) (i j : ℕ) → ((e : ℕ) → e < 3 → get_or s (3 * i + e) 0 ≡ get_or t (3 * j + e) 0)
    → pixel_at s i ≡ pixel_at t j
pixel-same s t i j same =
    let y : 3 * i + 0 ≡ 3 * i = omega arith in
    let z : 3 * j + 0 ≡ 3 * j = omega arith in
    let first : get_or s (3 * i) 0 ≡ get_or t (3 * j) 0 = rw (y, z) at (same 0 (omega arith)) in
    rw (first, same 1 (omega arith), same 2 (omega arith))

-- pixel i of the part from pixel a up to pixel e is pixel a + i of the strip
pub pixel-part : (a e i : ℕ) (strip : List ℕ) → a + i < e
    → pixel_at (mid_of (3 * a) (3 * e - 3 * a) strip) i ≡ pixel_at strip (a + i)
pixel-part a e i strip l =
    pixel-same (mid_of (3 * a) (3 * e - 3 * a) strip) strip i (a + i) (λ j h.
    let z : 3 * a + (3 * i + j) ≡ 3 * (a + i) + j = omega arith in
    part_at (3 * a) (3 * e - 3 * a) (3 * i + j) strip (omega arith) ∙ ap (λ p. get_or strip p 0) z)

-- ---- two strips joined, the first of n pixels

module _ (s t : List ℕ) (n : ℕ) (long : length s ≡ 3 * n) where
  -- a pixel below n is one of the first strip
  pub pixel-first : (i : ℕ) → i < n → pixel_at (s ++ t) i ≡ pixel_at s i
  pixel-first i l = pixel-same (s ++ t) s i i (λ j h. get_or-append s t 0 (3 * i + j) (omega arith))

  -- those behind are of the second
  pub pixel-second : (i : ℕ) → pixel_at (s ++ t) (n + i) ≡ pixel_at t i
  pixel-second i =
      pixel-same (s ++ t) t (n + i) i (λ j h.
      let z : 3 * (n + i) + j ≡ length s + (3 * i + j) = omega arith in
      ap (λ p. get_or (s ++ t) p 0) z ∙ get_or-append-add s t (3 * i + j) 0)
