-- What the tests mean, and what a picture and its raster are.
use Prim.Native.Nat.{ℕ, ◌*◌, ◌≤◌}
use mathlib.Core.Bool.{false}
use mathlib.Core.List.{List, []}
use mathlib.Core.Logic.{◌↔◌}
use mathlib.Core.Path.{◌≡◌, refl, sym, ap, ◌∙◌}
use lib.Dec.{ltb, eqb}
use lib.ListN.{length, drop, length-drop}
use borrow.Author.Tests.{ltb-false, le-ltb, eqb-true, eq-eqb}
use Rattle.number.proofs.Cases.{never, neither, not-not}
use Rattle.refusal.specs.{Refusal, NoneHolds, RefusesBy}
use Rattle.refusal.proofs.By.{refuses_by, refuses-by-all}
use Rattle.colour.specs.{most_pixels}
use Rattle.std.proofs.Common.{Some, Ok, Err}
use Rattle.p6_header.specs.{HeaderReading, header_with, header_of, offset_in}
use Rattle.p6_header.proofs.Headers.{start-inside}
use Rattle.p6.specs.Refusals.{
  most_side,
  the_depth,
  is_bad,
  width_in,
  height_in,
  depth_in,
  start_in,
  bad_header,
  bad_side,
  bad_size,
  bad_depth,
  bad_raster,
  picture_rows,
}
use Rattle.p6.specs.Outcomes.{refusal_in, refused_picture, made_picture, read_picture, raster_by, raster_of}
use Rattle.p6.specs.declared.Fault.{Fault}
use Rattle.p6.specs.declared.Picture.{Picture}

-- ---- the tests

-- a side is in range exactly from 1 to 16384
pub bad-side-exactly : (x : ℕ) → (bad_side x ≡ false) ↔ ((1 ≤ x) × (x ≤ most_side))
bad-side-exactly x = (
  λ e. let t = neither (ltb x 1) (ltb most_side x) e in (ltb-false x 1 t.0, ltb-false most_side x t.1),
  λ r. simp (le-ltb x 1 r.0, le-ltb most_side x r.1),
)

-- a size is in range exactly where both sides are, and their product
pub bad-size-exactly : (w h : ℕ)
    → (bad_size w h ≡ false) ↔ ((1 ≤ w) × (w ≤ most_side) × (1 ≤ h) × (h ≤ most_side) × (w * h ≤ most_pixels))
bad-size-exactly w h = (
  λ e.
      let first = neither (bad_side w) _ e in
      let rest = neither (bad_side h) (ltb most_pixels (w * h)) first.1 in
      let wide = (bad-side-exactly w).0 first.0 in
      let high = (bad-side-exactly h).0 rest.0 in
      (wide.0, wide.1, high.0, high.1, ltb-false most_pixels (w * h) rest.1),
  λ (wide, wide', high, high', few).
      rw ((bad-side-exactly w).1 (wide, wide'), (bad-side-exactly h).1 (high, high'), le-ltb most_pixels (w * h) few),
)

-- so the sides are at most 16384
pub sides-at-most : (w h : ℕ) → bad_size w h ≡ false → (w ≤ most_side) × (h ≤ most_side)
sides-at-most w h e = let t = (bad-size-exactly w h).0 e in (t.1, t.3)

-- a depth passes exactly where it is 255
pub bad-depth-exactly : (d : ℕ) → (bad_depth d ≡ false) ↔ (d ≡ the_depth)
bad-depth-exactly d = (
  λ e. eqb-true d the_depth (not-not (eqb d the_depth) e),
  λ e. rw (eq-eqb d the_depth e),
)

-- raster bytes pass exactly where there are three for each pixel
pub bad-raster-exactly : (w h n : ℕ) → (bad_raster w h n ≡ false) ↔ (n ≡ 3 * (w * h))
bad-raster-exactly w h n = (
  λ e. eqb-true n (3 * (w * h)) (not-not (eqb n (3 * (w * h))) e),
  λ e. rw (eq-eqb n (3 * (w * h)) e),
)

-- ---- the header

-- a header that did not fail is read, with the numbers it says
header_read : (h : HeaderReading) → is_bad h ≡ false → h ≡ header_with (width_in h) (height_in h) (depth_in h)
    (start_in h)
header_read (Ok h) e = refl
header_read (Err at) e = never e

-- and has no offset
header-offset : (h : HeaderReading) → is_bad h ≡ false → offset_in h ≡ 0
header-offset (Ok h) e = refl
header-offset (Err at) e = never e

module _ (s : List ℕ) where
  -- ---- refusals

  -- reading refuses by its rows: a picture, or the refusal and the offset
  pub picture-refuses : RefusesBy (picture_rows s) (read_picture s) refusal_in (made_picture s)
      (λ n. refused_picture n (offset_in (header_of s)))
  unfolding read_picture
  picture-refuses = refuses_by _ _ _ refusal_in refl (λ n. refl)

  -- with a header there is no offset
  pub offset-zero : {f : Fault} → bad_header s ≡ false → read_picture s ≡ Err f → f.offset ≡ 0
  offset-zero {f} e refused =
      refuses-by-all picture-refuses (λ p. p ≡ Err f → f.offset ≡ 0) (λ same. cc)
      (λ n same. let is : f.offset ≡ offset_in (header_of s) = cc in is ∙ header-offset (header_of s) e) refused

  -- ---- accepted pictures

  module _ {p : Picture} (ok : read_picture s ≡ Ok p) where
    -- of a picture that is accepted no test holds
    none : NoneHolds (picture_rows s)
    none = picture-refuses.accepted_exactly.0 (ap refusal_in ok)

    -- and it is made of the header
    made : Ok p ≡ made_picture s
    made = sym ok ∙ picture-refuses.accepted_is (ap refusal_in ok)

    -- it begins with a header of the answered numbers and depth 255
    pub accepted-header : header_of s ≡ header_with p.width p.height the_depth p.start
    accepted-header =
        let h = header_of s in
        let is : p ≡ record { width = width_in h; height = height_in h; start = start_in h } = cc made in
        rw is
        (header_read h none.0
        ∙ ap (λ d. header_with (width_in h) (height_in h) d (start_in h))
        ((bad-depth-exactly (depth_in h)).0 none.1.1.0))

    -- its raster begins inside the input
    pub accepted-start : p.start ≤ length s
    accepted-start = start-inside s _ _ _ _ accepted-header

    -- ---- the raster

    -- it is the input from its first place on
    pub raster-is-stretch : raster_of s ≡ drop p.start s
    unfolding raster_of
    raster-is-stretch = ap (λ a. raster_by a s) ok

    -- it has three bytes for each pixel
    pub raster-length : length (raster_of s) ≡ 3 * (p.width * p.height)
    raster-length =
        let h = header_of s in
        let is : p ≡ record { width = width_in h; height = height_in h; start = start_in h } = cc made in
        rw (raster-is-stretch, is)
        (length-drop (start_in h) s ∙ (bad-raster-exactly (width_in h) (height_in h) _).0 none.1.1.1.0)

  -- of a picture that is not accepted it is empty
  pub raster-nothing : {f : Fault} → read_picture s ≡ Err f → raster_of s ≡ []
  unfolding raster_of
  raster-nothing refused = ap (λ a. raster_by a s) refused

  -- so it is for every refusal
  pub raster-empty : (n : Refusal) → refusal_in (read_picture s) ≡ Some n → raster_of s ≡ []
  raster-empty n e = raster-nothing (picture-refuses.refused_is n e)
