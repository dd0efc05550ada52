-- The tests of a mapping, and the ways out of the call.
use Prim.Native.Nat.{ℕ, ◌+◌, ◌-◌, ◌≤◌, ◌<◌}
use mathlib.Core.Bool.{false}
use mathlib.Core.List.{List}
use mathlib.Core.Path.{◌≡◌, refl, ap, ◌∙◌}
use native.Mathlib.Omega.{arith}
use lib.Ieee.{Float}
use lib.ListN.{length}
use borrow.Author.Tests.{le-ltb, lt-ltb}
use borrow.Rule.Slice.PartMut.{mid_of, put_mid, mid_len}
use Rattle.number.specs.{fill, fill_from}
use Rattle.number.proofs.Parts.{stretch-filled}
use Rattle.std.specs.Prelude.{Option, None, Some, Result, Ok, Err}
use Rattle.refusal.specs.{Refusal, ShortRoom, first_refusal}
use Rattle.refusal.proofs.By.{by-made, by-refused}
use Rattle.colour.specs.{Bytes, bad_strip, most_pixels}
use Rattle.colour.proofs.Strips.{whole-exactly}
use Rattle.shades.proofs.Checks.{bad-coordinates-exactly}
use Rattle.palette.specs.{bad_palette}
use Rattle.palette_twins.specs.{twin_shade}
use Rattle.figures.specs.{Means, mean_figure, channel_means}
use Rattle.map_errors.specs.{Errors}
use Rattle.map_blocks.specs.{Mappable, SmallErrors, pixel_count, entry_for, errors_of}
use Rattle.map_blocks.proofs.Totals.{channels-add, errors-most}
use Rattle.mapping.specs.Outcomes.{
  answer_with,
  answer_of,
  unmapped,
  made_map,
  kept_map,
  map_rows,
  map_strip,
  MapMeets,
}
use Rattle.mapping.specs.declared.Mapped.{Mapped}
use Rattle.mapping.specs.declared.Unmapped.{Unmapped}

-- ---- the tests

-- what passes the tests before the room can be mapped
pub mappable : (s p : List ℕ) → bad_strip s ≡ false → bad_palette p ≡ false → pixel_count s ≤ most_pixels
    → Mappable s p (pixel_count s)
mappable s p strip palette few =
    let z = (whole-exactly s).0 strip in
    let e = (bad-coordinates-exactly (length p)).0 palette in
    record { pixels = omega arith; few = few; entries = e.2; some = e.0; at_most = e.1 }

-- the errors of a strip that is mapped are small
pub small-errors : (s p : List ℕ) (n : ℕ) → Bytes s → Bytes p → n ≤ most_pixels → SmallErrors (errors_of p s n)
small-errors s p n strip palette few =
    let m = errors-most p s n palette strip in
    record {
      red_small = omega (arith, m.0);
      green_small = omega (arith, m.1);
      blue_small = omega (arith, m.2);
    }

-- ---- the parts of the call

-- a stretch of n places that is lent on and comes back filled is that stretch of the picture filled
pub stretch-mapped : (first n : ℕ) (f : ℕ → ℕ) (index x : List ℕ) → first + n ≤ length index
    → x ≡ fill (length (mid_of first (first + n - first) index)) f (mid_of first (first + n - first) index)
    → put_mid first (first + n - first) index x ≡ fill_from first n f index
stretch-mapped first n f index x room e =
    let z : first + n - first ≡ n = omega arith in
    rw (e, mid_len first (first + n) index room, z) (stretch-filled first n f index)

-- ---- the ways out

module _ (s p index : List ℕ) (first : ℕ) where
  -- a call that is refused leaves the index picture as it came
  pub map-meets-refused : (n : Refusal) (u : Unmapped) → first_refusal (map_rows s p index first) ≡ Some n
      → u ≡ unmapped p n → MapMeets (map_strip s p index first) (Err u) index
  unfolding map_strip
  map-meets-refused n u e is =
      rw (by-refused (map_rows s p index first) (made_map s p index first) (kept_map p index) n e)
      (record { answer = ap Err is; index_is = refl })

  -- a stretch that goes past the end is refused
  pub short-room : bad_strip s ≡ false → bad_palette p ≡ false → twin_shade p ≡ false → pixel_count s ≤ most_pixels
      → length index < first + pixel_count s → first_refusal (map_rows s p index first) ≡ Some ShortRoom
  short-room strip palette twins few past = simp (strip, palette, twins, le-ltb _ _ few, lt-ltb _ _ past)

  -- a call that passes all tests maps the strip
  pub map-meets-made : bad_strip s ≡ false → bad_palette p ≡ false → twin_shade p ≡ false → pixel_count s ≤ most_pixels
      → first + pixel_count s ≤ length index → (r : Mapped) (errors : Errors) (x : List ℕ)
      → errors ≡ errors_of p s (pixel_count s) → r ≡ answer_of errors (pixel_count s)
      → x ≡ fill_from first (pixel_count s) (entry_for p s) index → MapMeets (map_strip s p index first) (Ok r) x
  unfolding map_strip
  map-meets-made strip palette twins few room r errors x are is made =
      let n = pixel_count s in
      let e : first_refusal (map_rows s p index first) ≡ None =
      simp (strip, palette, twins, le-ltb _ _ few, le-ltb _ _ room) in
      rw (by-made (map_rows s p index first) (made_map s p index first) (kept_map p index) e)
      (record {
        answer =
            ap Ok
            (is ∙ ap (λ (y : Errors). answer_of y n) are
            ∙ ap (λ y. answer_with y (errors_of p s n) n) (channels-add p s n));
        index_is = made;
      })
