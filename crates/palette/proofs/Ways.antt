-- The tests of a palette from shades, and the ways out of the call.
use Prim.Native.Nat.{ℕ, ◌≤◌}
use mathlib.Core.Bool.{false}
use mathlib.Core.List.{List}
use mathlib.Core.Path.{◌≡◌, refl, sym, ap, ◌∙◌}
use lib.Dec.{ltb}
use lib.ListN.{length}
use borrow.Author.Tests.{le-ltb}
use Rattle.std.specs.Prelude.{None, Some, Ok, Err}
use Rattle.refusal.specs.{Refusal, first_refusal}
use Rattle.refusal.proofs.By.{by-made, by-refused}
use Rattle.shades.specs.{bad_coordinates, bad_centre}
use Rattle.shades.proofs.Checks.{bad-coordinates-exactly}
use Rattle.palette.specs.Palettes.{palette_of}
use Rattle.palette.specs.Outcomes.{
  short_palette,
  palette_rows,
  made_palette,
  kept_palette,
  palette_from_shades,
  PaletteMeets,
}

module _ (s d : List ℕ) where
  -- of whole shades, three bytes for each shade are a byte for each coordinate
  pub short-palette : bad_coordinates (length s) ≡ false → short_palette s d ≡ ltb (length d) (length s)
  short-palette whole = ap (ltb (length d)) (sym ((bad-coordinates-exactly (length s)).0 whole).2)

  -- a call that is refused leaves the bytes as they came
  pub palette-meets-refused : (n : Refusal) → first_refusal (palette_rows s d) ≡ Some n
      → PaletteMeets (palette_from_shades s d) (Err n) d
  unfolding palette_from_shades
  palette-meets-refused n e =
      rw (by-refused (palette_rows s d) (made_palette s d) (kept_palette d) n e)
      (record { answer = refl; palette_is = refl })

  -- a call that passes all tests makes the palette
  pub palette-meets-made : bad_coordinates (length s) ≡ false → bad_centre s ≡ false → length s ≤ length d
      → (x : List ℕ)
      → x ≡ palette_of s d → PaletteMeets (palette_from_shades s d) (Ok tt) x
  unfolding palette_from_shades
  palette-meets-made whole centre room x is =
      let e : first_refusal (palette_rows s d) ≡ None = simp (whole, centre, short-palette whole ∙ le-ltb _ _ room) in
      rw (by-made (palette_rows s d) (made_palette s d) (kept_palette d) e)
      (record { answer = refl; palette_is = is })
