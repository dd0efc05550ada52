-- The text of what the calls leave: which it is, and that it never is longer than its room.
use Prim.Native.Nat.{ℕ, zero, suc, ◌+◌, ◌*◌, ◌/◌, ◌≤◌}
use mathlib.Core.List.{List, [], ◌∷◌}
use mathlib.Core.Path.{◌≡◌, refl, ap, ◌∙◌}
use native.Mathlib.Omega.{arith}
use lib.ListN.{length, take, length-replicate}
use Rattle.std.specs.Prelude.{Result, Ok, Err}
use Rattle.refusal.specs.{Refusal, number_of, Given, NoneHolds}
use Rattle.refusal.proofs.By.{refusal-exactly, none-exactly, by-made, by-refused}
use Rattle.shades.specs.{most_shades}
use Rattle.texts.specs.{lines_of, with_text}
use Rattle.texts.proofs.Texts.{text-length}
use Rattle.listing_lines.specs.{most_text, refused_text}
use Rattle.listing_lines.proofs.Promises.{refused-most, lines-most}
use Rattle.listing_work.specs.{Work, work_tests, work_picture, Fits, LeftFits}
use Rattle.listing_work.proofs.Works.{work-refuses}
use Rattle.listing.specs.Refusals.{count_in, picture_in, input_rows}
use Rattle.listing.specs.Works.{work_input}
use Rattle.listing.specs.Listings.{
  work_lines,
  work_text,
  listing_lines,
  picture_text,
  listing_text,
  text_room,
  listing_of,
}
use Rattle.listing.specs.declared.Listing.{Listing}
use Rattle.listing.proofs.Rooms.{input-fits}

-- ---- which text it is

-- what a row refuses before the run gives its line
pub input-refused : (s : List ℕ) (n : Refusal) → Given (input_rows s) n → listing_text s ≡ refused_text (number_of n)
unfolding listing_text work_input
input-refused s n g =
    ap work_text
    (by-refused (input_rows s) (work_picture (picture_in s) (count_in s)) Err n
    ((refusal-exactly (input_rows s) n).1 g))

-- where none does it is the picture's text
pub input-accepted : (s : List ℕ) → NoneHolds (input_rows s) → listing_text s ≡ picture_text (picture_in s) (count_in s)
unfolding listing_text picture_text work_input
input-accepted s g =
    ap work_text
    (by-made (input_rows s) (work_picture (picture_in s) (count_in s)) Err ((none-exactly (input_rows s)).1 g))

-- what a row of run or mapping refuses gives its line
pub picture-refused : (p : List ℕ) (count : ℕ) (n : Refusal) → Given (work_tests p count) n
    → picture_text p count ≡ refused_text (number_of n)
unfolding picture_text
picture-refused p count n g =
    ap work_text ((work-refuses p count).by_refusal n ((refusal-exactly (work_tests p count) n).1 g))

-- where none of these holds it is the lines
pub picture-accepted : (p : List ℕ) (count : ℕ) → NoneHolds (work_tests p count)
    → picture_text p count ≡ lines_of (listing_lines p count)
unfolding picture_text
picture-accepted p count g =
    ap work_text ((work-refuses p count).by_none ((none-exactly (work_tests p count)).1 g))

-- ---- its length

-- what is taken of a list is no longer than asked for
take-most : (n : ℕ) (l : List ℕ) → length (take n l) ≤ n
take-most zero l = omega arith
take-most (suc n) [] = omega arith
take-most (suc n) (x ∷ l) = omega (arith, take-most n l)

-- so the palette that is told has at most 64 entries
pub entries-most : {w : Work} → Fits w → length (take (3 * w.shades) w.palette) / 3 ≤ most_shades
entries-most {w} fits = omega (arith, take-most (3 * w.shades) w.palette, fits.few)

-- the text of what fits
fits-most : (work : Result Work Refusal) → LeftFits work → length (work_text work) ≤ most_text
fits-most (Ok w) fits =
    lines-most w.summary (take (3 * w.shades) w.palette) (take w.pixels w.index) (entries-most fits)
fits-most (Err n) fits = refused-most (number_of n)

-- the text of every input
pub text-most : (s : List ℕ) → length (listing_text s) ≤ most_text
unfolding listing_text
text-most s = fits-most (work_input s) (input-fits s)

-- the room of a listing is as long as its text may be
room-length : length text_room ≡ most_text
unfolding text_room
room-length = length-replicate {A = ℕ} most_text 0

-- ---- the answer

module _ (s : List ℕ) {r : ℕ} {x : List ℕ} (ends : r ≡ 0 + length (listing_text s))
    (is : x ≡ with_text 0 (listing_text s) text_room) where
  -- it is the text put into zeros, and its length
  pub listing-is : ◌≡◌ {A = Listing} (record { length = r; text = x }) (listing_of s)
  listing-is =
      let z : r ≡ length (listing_text s) = omega (arith, ends) in
      rw (z, is)

  -- the text lies within it
  pub text-within : r ≤ length x
  text-within = omega (arith, text-most s, ends, ap length is, text-length 0 (listing_text s) text_room, room-length)
