-- What the calls leave of an input fits: at most 64 shades, and slices with room for shades and pixels.
use Prim.Native.Nat.{ℕ}
use mathlib.Core.List.{List}
use mathlib.Core.Logic.{inl, inr}
use Rattle.std.specs.Prelude.{Err}
use Rattle.refusal.proofs.Promises.{done-exactly}
use Rattle.refusal.proofs.By.{none-exactly, none-or-some, by-made, by-refused}
use Rattle.listing_test.specs.{small_rows}
use Rattle.listing_test.proofs.Smalls.{small-raster}
use Rattle.listing_work.specs.{work_picture, LeftFits}
use Rattle.listing_work.proofs.Rooms.{picture-fits}
use Rattle.listing.specs.Refusals.{count_in, picture_in, input_rows}
use Rattle.listing.specs.Works.{work_input}

-- of every input: a picture that passes its tests has at most 8,192 pixels
pub input-fits : (s : List ℕ) → LeftFits (work_input s)
unfolding work_input
input-fits s = elim (none-or-some (input_rows s)) [
  | inl e ↦
      let passed = (done-exactly (small_rows (picture_in s))).1 ((none-exactly (input_rows s)).0 e).1.1 in
      rw (by-made (input_rows s) (work_picture (picture_in s) (count_in s)) Err e)
      (picture-fits (picture_in s) (count_in s) (small-raster (picture_in s) passed))
  | inr g ↦ rw (by-refused (input_rows s) (work_picture (picture_in s) (count_in s)) Err g.0 g.1) tt
]
