-- Pictures with comments in their headers: what is answered is told by the header's numbers and the raster behind it,
-- so with each comment replaced by one white byte the answer differs in the raster's first place alone.
use Prim.Native.Nat.{ℕ, ◌-◌}
use mathlib.Core.Bool.{Bool, true, false}
use mathlib.Core.List.{List, [], ◌++◌}
use mathlib.Core.Path.{◌≡◌, refl, sym, ap, ◌∙◌}
use native.Mathlib.Omega.{arith}
use lib.ListN.{length, drop, length-append}
use lib.Seq.{take-length, drop-append_seam}
use Rattle.std.proofs.Common.{Ok, Err}
use Rattle.refusal.specs.{BadHeader}
use Rattle.grammar.specs.{byte_at}
use Rattle.p6_gap.specs.{is_white, hash, Unended, replaced}
use Rattle.p6_header.specs.{header_with, header_of, plain_header, HeaderIn, Between}
use Rattle.p6_header.proofs.Promises.{comments-as-white, start-counts-all, unended-fails, as-without-comments}
use Rattle.p6.specs.Refusals.{bad_size, bad_depth, bad_raster, start_in}
use Rattle.p6.specs.Outcomes.{
  PictureReading,
  refused_picture,
  read_picture,
  raster_of,
  tested_picture,
  picture_by,
  unplaced,
  Alike,
}
use Rattle.p6.specs.declared.Picture.{Picture}
use Rattle.p6.proofs.Meaning.{accepted-header, raster-is-stretch, raster-nothing}
use Rattle.p6.proofs.Ways.{picture-bad-header, picture-by-header}

-- ---- a header, and a raster behind it

-- these bytes where an answer is a picture, else nothing
abbrev read_of : PictureReading → List ℕ → List ℕ
read_of (Ok picture) r = r
read_of (Err fault) r = []

-- the raster's first place does not tell which
read_of-unplaced : (a : PictureReading) (r : List ℕ) → read_of a r ≡ read_of (unplaced a) r
read_of-unplaced (Ok picture) r = refl
read_of-unplaced (Err fault) r = refl

-- the raster's first place tells nothing else
place-alike : (size depth raster : Bool) (w h m n : ℕ)
    → Alike (tested_picture size depth raster w h m) (tested_picture size depth raster w h n)
place-alike true depth raster w h m n = refl
place-alike false true raster w h m n = refl
place-alike false false true w h m n = refl
place-alike false false false w h m n = refl

module _ (u r : List ℕ) (w h d : ℕ) (e : header_of (u ++ r) ≡ header_with w h d (length u)) where
  -- the bytes behind the header are the raster's
  raster-bytes : length (u ++ r) - length u ≡ length r
  raster-bytes = omega (arith, length-append u r)

  -- what is answered
  picture-by : read_picture (u ++ r)
      ≡ tested_picture (bad_size w h) (bad_depth d) (bad_raster w h (length r)) w h (length u)
  picture-by =
      picture-by-header (u ++ r) ∙ ap (λ x. picture_by x (length (u ++ r))) e
      ∙ ap (λ n. tested_picture (bad_size w h) (bad_depth d) (bad_raster w h n) w h (length u)) raster-bytes

  -- where it is accepted the raster begins behind the header
  pub raster-behind : {p : Picture} → read_picture (u ++ r) ≡ Ok p → p.start ≡ length u
  raster-behind ok = ap start_in (sym (accepted-header (u ++ r) ok) ∙ e)

  -- the raster is what is behind the header, or nothing
  raster-told : raster_of (u ++ r) ≡ read_of (read_picture (u ++ r)) r
  raster-told = go (read_picture (u ++ r)) refl
    where
      go : (a : PictureReading) → read_picture (u ++ r) ≡ a → raster_of (u ++ r) ≡ read_of a r
      go (Ok p) ok =
          raster-is-stretch (u ++ r) ok ∙ ap (λ n. drop n (u ++ r)) (raster-behind ok) ∙ drop-append_seam u r
      go (Err f) refused = raster-nothing (u ++ r) refused

-- ---- comments replaced

-- two headers of the same numbers before one raster are answered alike, and their rasters are one
numbers-alike : (u v r : List ℕ) (w h d : ℕ) → header_of (u ++ r) ≡ header_with w h d (length u)
    → header_of (v ++ r) ≡ header_with w h d (length v)
    → Alike (read_picture (u ++ r)) (read_picture (v ++ r)) × (raster_of (u ++ r) ≡ raster_of (v ++ r))
numbers-alike u v r w h d e f =
    let a : Alike (read_picture (u ++ r)) (read_picture (v ++ r)) =
    rw (picture-by u r w h d e, picture-by v r w h d f)
    (place-alike (bad_size w h) (bad_depth d) (bad_raster w h (length r)) w h (length u) (length v)) in
    let p = read_picture (u ++ r) in
    let q = read_picture (v ++ r) in
    let same = read_of-unplaced p r ∙ ap (λ x. read_of x r) a ∙ sym (read_of-unplaced q r) in
    (a, raster-told u r w h d e ∙ same ∙ sym (raster-told v r w h d f))

-- a header with comments, and the same with each replaced by one white byte
pub comments-alike : (one : ℕ) → is_white one ≡ true → (header : List ℕ) (w h d : ℕ)
    → HeaderIn header w h d (length header) → (raster : List ℕ)
    → Alike (read_picture (header ++ raster)) (read_picture (replaced one header ++ raster))
    × (raster_of (header ++ raster) ≡ raster_of (replaced one header ++ raster))
comments-alike one white header w h d is raster =
    numbers-alike header (replaced one header) raster w h d (start-counts-all header w h d is raster)
    (rw (take-length header) at (comments-as-white one white header w h d (length header) is raster))

-- where an accepted picture is a header and bytes behind it, its raster begins at the header's length
pub accepted-behind : (header : List ℕ) (w h d : ℕ) → HeaderIn header w h d (length header) → (raster : List ℕ)
    → {p : Picture} → read_picture (header ++ raster) ≡ Ok p → p.start ≡ length header
accepted-behind header w h d is raster = raster-behind header raster w h d (start-counts-all header w h d is raster)

-- ---- no comment

-- where none may open the answer is that by the header of document 01
pub picture-plain : (s : List ℕ) → ((at : ℕ) → Between s at → ¬ (byte_at s at ≡ hash))
    → read_picture s ≡ picture_by (plain_header s) (length s)
picture-plain s none = picture-by-header s ∙ ap (λ x. picture_by x (length s)) (as-without-comments s none)

-- ---- a comment that never ends

-- it is BAD HEADER at the input's length
pub unended-offset : (s : List ℕ) (at : ℕ) → Between s at → Unended s at
    → read_picture s ≡ refused_picture BadHeader (length s)
unended-offset s at b u = picture-bad-header s (length s) (unended-fails s at b u)
