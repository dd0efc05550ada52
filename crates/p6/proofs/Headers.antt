-- BAD HEADER and its offset, from what is shown of headers.
use Prim.Native.Nat.{ℕ}
use mathlib.Core.Bool.{true}
use mathlib.Core.List.{List, [], ◌∷◌}
use mathlib.Core.Logic.{inl, inr}
use mathlib.Core.Path.{◌≡◌, refl, sym, ap, ◌∙◌}
use Rattle.std.proofs.Common.{Ok, Err}
use Rattle.number.proofs.Cases.{never}
use Rattle.refusal.specs.{done, Given, BadHeader}
use Rattle.p6_header.specs.{
  HeaderReading,
  header_of,
  header_number,
  header_values,
  HeaderSays,
  offset_in,
  HeaderIn,
  FirstWrong,
}
use Rattle.p6_header.proofs.Headers.{header-reads-exactly}
use Rattle.p6_header.proofs.Wrongs.{header-fails-exactly}
use Rattle.p6.specs.Refusals.{the_depth, is_bad, picture_rows}
use Rattle.p6.specs.Outcomes.{PictureReading, refusal_in, refused_picture, read_picture}
use Rattle.p6.specs.declared.Picture.{Picture}
use Rattle.p6.proofs.Meaning.{picture-refuses, accepted-header}
use Rattle.p6.proofs.Ways.{picture-bad-header}

-- a header that failed did so at its offset
failed-at : (h : HeaderReading) → is_bad h ≡ true → h ≡ Err (offset_in h)
failed-at (Ok h) e = never (sym e)
failed-at (Err at) e = refl

-- BAD HEADER is the refusal of the first row alone
bad-header-first : (s : List ℕ) → Given (picture_rows s) BadHeader → is_bad (header_of s) ≡ true
bad-header-first s (inl (t, e)) = t
bad-header-first s (inr (f, inl (t, e))) = absurd cc
bad-header-first s (inr (f, inr (g, inl (t, e)))) = absurd cc
bad-header-first s (inr (f, inr (g, inr (h, inl (t, e))))) = absurd cc
bad-header-first s (inr (f, inr (g, inr (h, inr (i, none))))) = absurd none

-- the offset that an answer tells
abbrev told_offset : PictureReading → ℕ
told_offset (Ok picture) = 0
told_offset (Err fault) = fault.offset

-- BAD HEADER carries the offset of the first byte that cannot stand there, or of the end
pub bad-header-offset : (s : List ℕ) {at : ℕ} → read_picture s ≡ refused_picture BadHeader at → FirstWrong s at
bad-header-offset s {at} e =
    let refused = ap refusal_in e in
    let bad : is_bad (header_of s) ≡ true =
    bad-header-first s (((picture-refuses s).refused_exactly BadHeader).0 refused) in
    let same : refused_picture BadHeader at ≡ refused_picture BadHeader (offset_in (header_of s)) =
    sym e ∙ (picture-refuses s).refused_is BadHeader refused in
    rw (ap told_offset same) ((header-fails-exactly s _).0 (failed-at (header_of s) bad))

-- and is given wherever there is one
pub bad-header-given : (s : List ℕ) (at : ℕ) → FirstWrong s at → read_picture s ≡ refused_picture BadHeader at
bad-header-given s at f = picture-bad-header s at ((header-fails-exactly s at).1 f)

-- a picture that is accepted begins with a header of its numbers and depth 255
pub accepted-begins : (s : List ℕ) {p : Picture} → read_picture s ≡ Ok p
    → HeaderIn s p.width p.height the_depth p.start
accepted-begins s ok = (header-reads-exactly s _ _ _ _).0 (accepted-header s ok)

-- and the header says these numbers
pub accepted-says : (s : List ℕ) {p : Picture} → read_picture s ≡ Ok p
    → HeaderSays (header_of s) done (p.width ∷ p.height ∷ the_depth ∷ p.start ∷ [])
accepted-says s ok =
    (ap header_number (accepted-header s ok), ap header_values (accepted-header s ok))
