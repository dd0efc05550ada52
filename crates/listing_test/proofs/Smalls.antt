-- The tests of a picture that is to be listed, from its header and what p6 answers.
use Prim.Native.Nat.{ℕ, ◌*◌, ◌/◌, ◌%◌, ◌≤◌}
use mathlib.Core.Bool.{false}
use mathlib.Core.List.{List}
use mathlib.Core.Path.{◌≡◌, ◌∙◌}
use native.Mathlib.Omega.{arith}
use lib.ListN.{length}
use borrow.Author.Tests.{le-ltb, ltb-false}
use Rattle.number.proofs.Cases.{neither}
use Rattle.refusal.specs.{done, first_of, first_refusal}
use Rattle.refusal.proofs.Promises.{done-exactly}
use Rattle.p6_header.specs.{header_with, header_of}
use Rattle.p6.specs.{
  width_in,
  height_in,
  bad_size,
  refusal_in,
  made_picture,
  read_picture,
  raster_of,
}
use Rattle.p6.proofs.Meaning.{picture-refuses, raster-length}
use Rattle.listing_test.specs.Refusals.{most_listed, small_rows}

-- past the tests of the header and the size it is as p6 answers
pub small-rest : (p : List ℕ) (w h d n : ℕ) → header_of p ≡ header_with w h d n → bad_size w h ≡ false
    → w * h ≤ most_listed → refusal_in (read_picture p) ≡ first_refusal (small_rows p)
small-rest p w h d n e t few = (picture-refuses p).refusal_is ∙ rw (e, t, le-ltb most_listed (w * h) few)

module _ (p : List ℕ) (e : first_of (small_rows p) ≡ done) where
  -- a picture that passes is accepted
  pub small-accepted : read_picture p ≡ made_picture p
  small-accepted =
      let none = (done-exactly (small_rows p)).0 e in
      let h = header_of p in
      let size = neither (bad_size (width_in h) (height_in h)) _ none.1.0 in
      (picture-refuses p).accepted_is
      ((picture-refuses p).accepted_exactly.1 (none.0, (size.0, (none.1.1.0, (none.1.1.1.0, tt)))))

  -- its raster has three bytes for each pixel, which are at most 8,192
  raster-is : (length (raster_of p) ≡ 3 * (width_in (header_of p) * height_in (header_of p)))
      × (width_in (header_of p) * height_in (header_of p) ≤ most_listed)
  raster-is =
      let none = (done-exactly (small_rows p)).0 e in
      let h = header_of p in
      let size = neither (bad_size (width_in h) (height_in h)) _ none.1.0 in
      (raster-length p small-accepted, ltb-false most_listed (width_in h * height_in h) size.1)

  -- so it has at most 8,192 pixels
  pub small-raster : length (raster_of p) / 3 ≤ most_listed
  small-raster = omega (arith, raster-is.0, raster-is.1)

  -- as many as its sides say
  pub small-pixels : length (raster_of p) / 3 ≡ width_in (header_of p) * height_in (header_of p)
  small-pixels = omega (arith, raster-is.0)

  -- and whole ones
  pub small-whole : length (raster_of p) % 3 ≡ 0
  small-whole = omega (arith, raster-is.0)
