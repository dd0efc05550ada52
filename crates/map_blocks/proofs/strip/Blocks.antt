-- Block after block, the pixels of a strip are mapped.
use Prim.Native.Nat.{ℕ, ◌+◌, ◌-◌, ◌*◌, ◌≤◌, ◌<◌}
use mathlib.Core.List.{List}
use mathlib.Core.Path.{◌≡◌, refl, sym, ap, ap₂, ◌∙◌}
use native.Mathlib.Omega.{arith}
use lib.ListN.{length}
use borrow.Rule.Slice.PartMut.{mid_of, put_mid, mid_len}
use Rattle.number.specs.{fill, sum}
use Rattle.number.proofs.Fills.{fill-length}
use Rattle.number.proofs.Parts.{part_filled}
use Rattle.colour.specs.{Point, Bytes, most_coordinate, most_pixels}
use Rattle.shades.specs.{shade_at, nearest_shade, OnGrid, Shades}
use Rattle.shades.proofs.Laying.{shade-within}
use Rattle.search_all.specs.{PointsOnGrid}
use Rattle.map_errors.specs.{Errors, pixel_at, miss_on, misses_of, plus_errors}
use Rattle.map_slots.specs.{most_slots}
use Rattle.map_block.specs.{nearest_to}
use Rattle.map_blocks.specs.Asking.{SmallErrors}
use Rattle.map_errors.proofs.Misses.{miss-most, misses-same, misses-parts}
use Rattle.map_errors.proofs.Pixels.{pixels-on-grid, pixel-part}

-- the pixels before place i are mapped to the k shades of s, and their errors are added up
pub record Mapped (strip s : List ℕ) (k : ℕ) (before index : List ℕ) (errors : Errors) (i : ℕ) : Type 0 where
  pub within : i ≤ length before
  pub is : index ≡ fill i (nearest_to s k strip) before
  pub errors_are : errors ≡ misses_of (pixel_at strip) s (nearest_to s k strip) i

-- before the first pixel
pub mapped-start : (strip s : List ℕ) (k : ℕ) (d : List ℕ)
    → Mapped strip s k d d (record { red = 0; green = 0; blue = 0 }) 0
unfolding fill sum
mapped-start strip s k d = record { within = omega arith; is = refl; errors_are = refl }

-- errors of points and shades on the grid are small
misses-small : (c : ℕ → Point) (s : List ℕ) (f : ℕ → ℕ) (n : ℕ) → PointsOnGrid n c → OnGrid s → n ≤ most_pixels
    → SmallErrors (misses_of c s f n)
misses-small c s f n inside low few =
    let most : (e : ℕ) → miss_on e c s f n ≤ most_coordinate * most_coordinate * most_pixels =
    λ e. omega (arith, miss-most most_coordinate c s f (λ q. shade-within s q low) e n inside) in
    record { red_small = most 0; green_small = most 1; blue_small = most 2 }

-- what is asked for a whole strip: three bytes for each place, some shades on the grid, and no more pixels than may be
abbrev pub Asked : List ℕ → List ℕ → ℕ → List ℕ → Type 0
Asked strip s k before =
    (length strip ≡ 3 * length before) × Shades k s × (0 < k) × (length before ≤ most_pixels)

module _ {strip s : List ℕ} {k : ℕ} {before index : List ℕ} {errors : Errors} {a : ℕ}
    (w : Mapped strip s k before index errors a) where
  -- as many places as before
  pub mapped-long : length index ≡ length before
  mapped-long = ap length w.is ∙ fill-length a (nearest_to s k strip) before

  -- ---- the block from place a up to place e

  module _ (e : ℕ) (h : a ≤ e) (room : e ≤ length before) where
    -- its bytes
    abbrev block : List ℕ
    block = mid_of (3 * a) (3 * e - 3 * a) strip

    -- its places in the index picture
    abbrev part : List ℕ
    part = mid_of a (e - a) index

    -- they are e - a
    part-long : length part ≡ e - a
    part-long = mid_len a e index (omega (arith, mapped-long))

    -- its pixels are those of the strip
    block-pixel : (i : ℕ) → i < e - a → pixel_at block i ≡ pixel_at strip (a + i)
    block-pixel i l = pixel-part a e i strip (omega arith)

    -- and so are its errors
    block-errors : {r : Errors} → r ≡ misses_of (pixel_at block) s (nearest_to s k block) (length part)
        → r ≡ misses_of (λ i. pixel_at strip (a + i)) s (λ i. nearest_to s k strip (a + i)) (e - a)
    block-errors x =
        rw part-long at x
        ∙ misses-same (e - a) (pixel_at block) _ s s (nearest_to s k block) _ block-pixel
        (λ i l. ap (λ c. shade_at s (nearest_shade s k c)) (block-pixel i l))

    -- what mapping it asks is there
    pub block-asked : Asked strip s k before → e - a ≤ most_slots
        → (length block ≡ 3 * length part) × Shades k s × (0 < k) × (length part ≤ most_slots)
    block-asked ask few = (
      omega (arith, part-long, ask.0, mid_len (3 * a) (3 * e) strip (omega (arith, ask.0))),
      ask.1,
      ask.2,
      omega (arith, part-long),
    )

    -- the errors so far and those of the block are small
    pub errors-small : Asked strip s k before → Bytes strip → {r : Errors}
        → r ≡ misses_of (pixel_at block) s (nearest_to s k block) (length part) → SmallErrors errors × SmallErrors r
    errors-small ask bytes x = (
      rw w.errors_are
          (misses-small (pixel_at strip) s (nearest_to s k strip) a (pixels-on-grid strip a bytes) ask.1.low
          (omega (arith, ask.3))),
      rw (block-errors x)
          (misses-small (λ i. pixel_at strip (a + i)) s _ (e - a)
          (λ i l. pixels-on-grid strip e bytes (a + i) (omega arith)) ask.1.low (omega (arith, ask.3))),
    )

    -- the block is mapped too
    pub mapped-step : {x : List ℕ} {r : Errors} → x ≡ fill (length part) (nearest_to s k block) part
        → r ≡ misses_of (pixel_at block) s (nearest_to s k block) (length part)
        → Mapped strip s k before (put_mid a (e - a) index x) (plus_errors errors r) e
    mapped-step ex er =
        let f = nearest_to s k strip in
        let z : a + (e - a) ≡ e = omega arith in
        record {
          within = room;
          is = rw (ex, part-long, w.is)
              (rw z at (part_filled a (e - a) f _ before (λ i l. ap (nearest_shade s k) (block-pixel i l))));
          errors_are = ap₂ plus_errors w.errors_are (block-errors er)
              ∙ rw z at (sym (misses-parts a (e - a) (pixel_at strip) s f));
        }
