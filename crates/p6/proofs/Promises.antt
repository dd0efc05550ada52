-- What is shown of P6 pictures, each theorem in full; its body names the proof.
-- `read_picture s` and `raster_of s` are what the contracts of `read_picture` and `raster_of` say of every input.
use Prim.Native.Nat.{ℕ, ◌*◌, ◌≤◌}
use mathlib.Core.Bool.{true, false}
use mathlib.Core.List.{List, [], ◌∷◌, ◌++◌}
use mathlib.Core.Logic.{◌↔◌}
use mathlib.Core.Path.{◌≡◌, sym, ◌∙◌}
use lib.ListN.{length, drop}
use Rattle.std.specs.Prelude.{Some, None, Ok, Err}
use Rattle.refusal.specs.{Refusal, done, Given, NoneHolds, BadHeader}
use Rattle.colour.specs.{most_pixels}
use Rattle.grammar.specs.{byte_at}
use Rattle.p6_gap.specs.{is_white, hash, Unended, replaced}
use Rattle.p6_header.specs.{header_of, plain_header, HeaderSays, offset_in, HeaderIn, Between, FirstWrong}
use Rattle.p6.specs.Refusals.{most_side, the_depth, bad_header, bad_size, bad_depth, bad_raster, picture_rows}
use Rattle.p6.specs.Outcomes.{PictureReading, refusal_in, refused_picture, read_picture, raster_of, picture_by, Alike}
use Rattle.p6.specs.declared.Fault.{Fault}
use Rattle.p6.specs.declared.Picture.{Picture}
use Rattle.p6.proofs.Comments as comments
use Rattle.p6.proofs.Meaning as meaning
use Rattle.p6.proofs.Headers as headers
use Rattle.p6.proofs.Ways as ways

-- ---- the contracts leave one answer

-- Whatever meets the contract of `read_picture` on an input is one answer.
pub picture-only : (s : List ℕ) {r r' : PictureReading} → r ≡ read_picture s → r' ≡ read_picture s → r ≡ r'
picture-only s a b = a ∙ sym b

-- Whatever meets the contract of `raster_of` on an input is one stretch.
pub raster-only : (s : List ℕ) {r r' : List ℕ} → r ≡ raster_of s → r' ≡ raster_of s → r ≡ r'
raster-only s a b = a ∙ sym b

-- ---- refusals

-- Of an input the answer depends on the header and the length alone: it is told from these, test by test.
pub picture-by-header : (s : List ℕ) → read_picture s ≡ picture_by (header_of s) (length s)
picture-by-header = ways.picture-by-header

-- A refusal is given exactly when its row is the first of 12, 13, 14, 15 whose test holds.
pub picture-refused-exactly : (s : List ℕ) (n : Refusal)
    → (refusal_in (read_picture s) ≡ Some n) ↔ Given (picture_rows s) n
picture-refused-exactly s = (meaning.picture-refuses s).refused_exactly

-- A picture is accepted exactly when none of the four tests holds.
pub picture-accepted-exactly : (s : List ℕ) → (refusal_in (read_picture s) ≡ None) ↔ NoneHolds (picture_rows s)
picture-accepted-exactly s = (meaning.picture-refuses s).accepted_exactly

-- BAD HEADER carries the offset of the first byte that cannot stand there, or the input's length if it ends early: some
-- header has the bytes before that place and goes on, and none has the byte at that place too.
pub bad-header-offset : (s : List ℕ) {at : ℕ} → read_picture s ≡ refused_picture BadHeader at → FirstWrong s at
bad-header-offset = headers.bad-header-offset

-- Wherever an input has such a place, BAD HEADER is given with it.
pub bad-header-given : (s : List ℕ) (at : ℕ) → FirstWrong s at → read_picture s ≡ refused_picture BadHeader at
bad-header-given = headers.bad-header-given

-- The test of BAD SIZE fails exactly for sides of 1 to 16,384 and at most 16,777,216 pixels.
pub bad-size-exactly : (w h : ℕ)
    → (bad_size w h ≡ false) ↔ ((1 ≤ w) × (w ≤ most_side) × (1 ≤ h) × (h ≤ most_side) × (w * h ≤ most_pixels))
bad-size-exactly = meaning.bad-size-exactly

-- The test of BAD DEPTH fails exactly for a depth of 255.
pub bad-depth-exactly : (d : ℕ) → (bad_depth d ≡ false) ↔ (d ≡ the_depth)
bad-depth-exactly = meaning.bad-depth-exactly

-- The test of BAD RASTER fails exactly for 3 × width × height raster bytes.
pub bad-raster-exactly : (w h n : ℕ) → (bad_raster w h n ≡ false) ↔ (n ≡ 3 * (w * h))
bad-raster-exactly = meaning.bad-raster-exactly

-- A refusal carries the offset at which the header failed, 0 for a header that is read.
pub picture-refused-answers : (s : List ℕ) (n : Refusal) → refusal_in (read_picture s) ≡ Some n
    → read_picture s ≡ refused_picture n (offset_in (header_of s))
picture-refused-answers s = (meaning.picture-refuses s).refused_is

-- Without BAD HEADER the offset is zero.
pub offset-zero : (s : List ℕ) {f : Fault} → bad_header s ≡ false → read_picture s ≡ Err f → f.offset ≡ 0
offset-zero = meaning.offset-zero

-- Where a comment that may open, between two parts before the depth, never ends, BAD HEADER is given with the input's
-- length.
pub unended-offset : (s : List ℕ) (at : ℕ) → Between s at → Unended s at
    → read_picture s ≡ refused_picture BadHeader (length s)
unended-offset = comments.unended-offset

-- ---- comments in the header

-- A picture with comments in its header, and the same with each comment replaced by one white byte, whichever, have the
-- same refusal, sides and raster: the answers differ in the raster's first place at most.
pub comments-alike : (one : ℕ) → is_white one ≡ true → (header : List ℕ) (w h d : ℕ)
    → HeaderIn header w h d (length header) → (raster : List ℕ)
    → Alike (read_picture (header ++ raster)) (read_picture (replaced one header ++ raster))
    × (raster_of (header ++ raster) ≡ raster_of (replaced one header ++ raster))
comments-alike = comments.comments-alike

-- Where no `#` stands between the parts before the depth, a picture is read as document 01 reads it, byte for byte: the
-- answer is that by document 01's header.
pub as-without-comments : (s : List ℕ) → ((at : ℕ) → Between s at → ¬ (byte_at s at ≡ hash))
    → read_picture s ≡ picture_by (plain_header s) (length s)
as-without-comments = comments.picture-plain

-- The place of the raster counts all bytes of the header, those of comments too.
pub accepted-behind : (header : List ℕ) (w h d : ℕ) → HeaderIn header w h d (length header) → (raster : List ℕ)
    → {p : Picture} → read_picture (header ++ raster) ≡ Ok p → p.start ≡ length header
accepted-behind = comments.accepted-behind

-- ---- accepted pictures

-- An accepted picture begins with a header of the answered sides and depth 255, and its raster begins behind it.
pub accepted-begins : (s : List ℕ) {p : Picture} → read_picture s ≡ Ok p
    → HeaderIn s p.width p.height the_depth p.start
accepted-begins = headers.accepted-begins

-- Its header says 0, these sides, 255 and the raster's first place.
pub accepted-says : (s : List ℕ) {p : Picture} → read_picture s ≡ Ok p
    → HeaderSays (header_of s) done (p.width ∷ p.height ∷ the_depth ∷ p.start ∷ [])
accepted-says = headers.accepted-says

-- Its raster is that stretch of the input, up to its end.
pub raster-is-stretch : (s : List ℕ) {p : Picture} → read_picture s ≡ Ok p → raster_of s ≡ drop p.start s
raster-is-stretch = meaning.raster-is-stretch

-- The raster has exactly 3 × width × height bytes.
pub raster-length : (s : List ℕ) {p : Picture} → read_picture s ≡ Ok p
    → length (raster_of s) ≡ 3 * (p.width * p.height)
raster-length = meaning.raster-length

-- Of a refused picture the raster is empty.
pub raster-empty : (s : List ℕ) (n : Refusal) → refusal_in (read_picture s) ≡ Some n → raster_of s ≡ []
raster-empty = meaning.raster-empty
