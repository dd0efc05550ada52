-- Shades that agree have the same nearest, so a palette may be searched as coordinates.
use Prim.Native.Nat.{ℕ, ◌+◌, ◌*◌, ◌≤◌, ◌<◌}
use mathlib.Core.List.{List}
use mathlib.Core.Path.{◌≡◌, refl, ap, ◌∙◌}
use native.Mathlib.Omega.{arith}
use lib.ListN.{length, get_or, replicate, length-replicate}
use Rattle.number.specs.{fill}
use Rattle.number.proofs.Fills.{fill-at, fill-at-most, fill-length, fill-same, zeros-at}
use Rattle.colour.specs.{Point, Bytes, most_coordinate}
use Rattle.shades.specs.{most_coordinates, shade_at, nearest_shade, Shades}
use Rattle.shades.proofs.Nearest.{nearest-below, nearest-same}
use Rattle.map_errors.specs.{Errors, pixel_at, misses_of}
use Rattle.map_block.specs.{nearest_to}
use Rattle.map_blocks.specs.Meaning.{entry_count, entry_for, errors_of}
use Rattle.map_blocks.specs.Asking.{Mappable}
use Rattle.map_errors.proofs.Misses.{misses-same}

-- ---- two lists whose first k shades agree

module _ (s t : List ℕ) (k : ℕ) (agree : (i : ℕ) → i < 3 * k → get_or s i 0 ≡ get_or t i 0) where
  -- a shade of the one is that of the other
  shade-same : (q : ℕ) → q < k → shade_at s q ≡ shade_at t q
  shade-same q l =
      rw (agree (3 * q) (omega arith), agree (3 * q + 1) (omega arith), agree (3 * q + 2) (omega arith))

  -- so the nearest stands where it stands in the other
  nearest-stands : 0 < k → (c : Point) → shade_at s (nearest_shade s k c) ≡ shade_at t (nearest_shade t k c)
  nearest-stands some c = ap (shade_at s) (nearest-same s t k shade-same c) ∙ shade-same _ (nearest-below t k c some)

  -- and a strip misses them alike
  misses-agree : 0 < k → (strip : List ℕ) (n : ℕ)
      → misses_of (pixel_at strip) s (nearest_to s k strip) n ≡ misses_of (pixel_at strip) t (nearest_to t k strip) n
  misses-agree some strip n =
      misses-same n (pixel_at strip) (pixel_at strip) s t (nearest_to s k strip) (nearest_to t k strip) (λ i l. refl)
      (λ i l. nearest-stands some (pixel_at strip i))

-- ---- a palette of bytes in front of zeros

module _ {strip palette wide : List ℕ} {n : ℕ} (may : Mappable strip palette n)
    (is : wide ≡ fill (length palette) (λ i. get_or palette i 0) (replicate most_coordinates 0)) where
  -- the places that the palette is put in front of
  abbrev zeros : List ℕ
  zeros = replicate most_coordinates 0

  -- they are as many as a palette may have bytes
  room : length palette ≤ length zeros
  room = simp length-replicate (omega (arith, may.entries, may.at_most))

  -- as coordinates the entries are shades on the grid
  pub widened-shades : Bytes palette → Shades (entry_count palette) wide
  widened-shades bytes = record {
    few = may.at_most;
    room = rw (is, fill-length) (omega (arith, may.entries, room));
    low = rw is
        (fill-at-most (length palette) most_coordinate (λ i. get_or palette i 0) zeros (λ i. omega (arith, bytes i))
        (λ i. omega (arith, zeros-at most_coordinates i)));
  }

  -- and agree with the palette
  widened-agree : (i : ℕ) → i < 3 * entry_count palette → get_or wide i 0 ≡ get_or palette i 0
  widened-agree i l =
      ap (λ w. get_or w i 0) is
      ∙ fill-at (length palette) i (λ j. get_or palette j 0) zeros (omega arith) (omega (arith, room))

  -- numbers from the coordinates are the entries' numbers
  pub widened-index : (before : List ℕ) {x : List ℕ} → x ≡ fill n (nearest_to wide (entry_count palette) strip) before
      → x ≡ fill n (entry_for palette strip) before
  widened-index before e =
      e
      ∙ fill-same n _ _ before
      (λ i l. nearest-same wide palette _ (shade-same wide palette _ widened-agree) (pixel_at strip i))

  -- and the errors are those from the entries
  pub widened-errors : {r : Errors} → r ≡ misses_of (pixel_at strip) wide (nearest_to wide (entry_count palette) strip)
      n
      → r ≡ errors_of palette strip n
  widened-errors e = e ∙ misses-agree wide palette _ widened-agree may.some strip n
