-- The ways out of the call: what reading a picture answers, by its header and what the tests said.
use Prim.Native.Nat.{ℕ, ◌-◌}
use mathlib.Core.Bool.{true, false}
use mathlib.Core.List.{List, [], ◌∷◌}
use mathlib.Core.Logic.{◌⊎◌, inl, inr}
use mathlib.Core.Path.{◌≡◌, refl, ap, ◌∙◌}
use lib.ListN.{length}
use Rattle.number.proofs.Cases.{bool}
use Rattle.refusal.specs.{
  Row,
  row,
  Refusal,
  BadHeader,
  BadSize,
  BadDepth,
  BadRaster,
  first_refusal,
}
use Rattle.std.proofs.Common.{Some, Ok, Err}
use Rattle.p6_header.specs.{HeaderReading, header_with, header_of, offset_in}
use Rattle.p6.specs.Refusals.{bad_size, bad_depth, bad_raster, width_in, height_in, start_in, picture_rows}
use Rattle.p6.specs.Outcomes.{refused_picture, picture_with, read_picture, picture_by}
use Rattle.p6.proofs.Meaning.{picture-refuses}

-- the rows after BAD HEADER, of a header's numbers and the count of raster bytes
abbrev number_rows : ℕ → ℕ → ℕ → ℕ → List Row
number_rows w h d bytes =
    row (bad_size w h) BadSize ∷ row (bad_depth d) BadDepth ∷ row (bad_raster w h bytes) BadRaster ∷ []

module _ (s : List ℕ) where
  -- a header that fails is refused, with the place
  pub picture-bad-header : (at : ℕ) → header_of s ≡ Err at → read_picture s ≡ refused_picture BadHeader at
  picture-bad-header at e =
      (picture-refuses s).by_refusal BadHeader (rw e) ∙ ap (λ h. refused_picture BadHeader (offset_in h)) e

  module _ (w h d n : ℕ) (e : header_of s ≡ header_with w h d n) where
    -- past the header, the rows after it decide
    past-header : first_refusal (picture_rows s) ≡ first_refusal (number_rows w h d (length s - n))
    past-header = rw e

    -- a picture with a header that is refused
    read-refused : (r : Refusal) → first_refusal (number_rows w h d (length s - n)) ≡ Some r
        → read_picture s ≡ refused_picture r 0
    read-refused r f =
        (picture-refuses s).by_refusal r (past-header ∙ f) ∙ ap (λ x. refused_picture r (offset_in x)) e

    -- a size out of range is refused
    pub picture-bad-size : bad_size w h ≡ true → read_picture s ≡ refused_picture BadSize 0
    picture-bad-size size = read-refused BadSize (rw size)

    -- another depth than 255 is refused
    pub picture-bad-depth : bad_size w h ≡ false → bad_depth d ≡ true
        → read_picture s ≡ refused_picture BadDepth 0
    picture-bad-depth size depth = read-refused BadDepth (rw (size, depth))

    -- a raster of another length is refused
    pub picture-bad-raster : bad_size w h ≡ false → bad_depth d ≡ false → bad_raster w h (length s - n) ≡ true
        → read_picture s ≡ refused_picture BadRaster 0
    picture-bad-raster size depth raster = read-refused BadRaster (rw (size, depth, raster))

    -- a picture that passes all tests is made
    pub picture-made : bad_size w h ≡ false → bad_depth d ≡ false → bad_raster w h (length s - n) ≡ false
        → read_picture s ≡ picture_with w h n
    picture-made size depth raster =
        (picture-refuses s).by_none (past-header ∙ rw (size, depth, raster))
        ∙ ap (λ (x : HeaderReading). picture_with (width_in x) (height_in x) (start_in x)) e

  -- so the answer is told from the header and the input's length
  pub picture-by-header : read_picture s ≡ picture_by (header_of s) (length s)
  picture-by-header = by (header_of s) refl
    where
      tested : (w h d n : ℕ) → header_of s ≡ header_with w h d n
          → (bad_size w h ≡ true) ⊎ (bad_size w h ≡ false) → (bad_depth d ≡ true) ⊎ (bad_depth d ≡ false)
          → (bad_raster w h (length s - n) ≡ true) ⊎ (bad_raster w h (length s - n) ≡ false)
          → read_picture s ≡ picture_by (header_with w h d n) (length s)
      tested w h d n e (inl size) depth raster = picture-bad-size w h d n e size ∙ rw size refl
      tested w h d n e (inr size) (inl depth) raster =
          picture-bad-depth w h d n e size depth ∙ rw (size, depth) refl
      tested w h d n e (inr size) (inr depth) (inl raster) =
          picture-bad-raster w h d n e size depth raster ∙ rw (size, depth, raster) refl
      tested w h d n e (inr size) (inr depth) (inr raster) =
          picture-made w h d n e size depth raster ∙ rw (size, depth, raster) refl

      by : (x : HeaderReading) → header_of s ≡ x → read_picture s ≡ picture_by x (length s)
      by (Err at) e = picture-bad-header at e
      by (Ok h) e =
          tested h.width h.height h.depth h.start e (bool (bad_size h.width h.height)) (bool (bad_depth h.depth))
          (bool (bad_raster h.width h.height (length s - h.start)))
