-- What is shown of listings, each theorem in full; its body names the proof.
-- `listing_text s` is the text of the input s (specs/Listings.antt): the contract of `list_shades` says that its answer
-- is this text in front of zeros, and its length, on every input.
use Prim.Native.Nat.{ℕ, suc, ◌+◌, ◌*◌, ◌^◌, ◌≤◌, ◌<◌}
use mathlib.Core.Bool.{false}
use mathlib.Core.List.{List}
use mathlib.Core.Logic.{◌↔◌, ◌⊎◌}
use mathlib.Core.Path.{◌≡◌, sym, ◌∙◌}
use lib.ListN.{length}
use Rattle.number.specs.{sum}
use Rattle.std.specs.Prelude.{None}
use Rattle.std.specs.Result.{result_err}
use Rattle.refusal.specs.{Refusal, number_of, done, first_of, Given, NoneHolds, BadCount, FewColours, TwinShade}
use Rattle.colour.specs.{Bytes}
use Rattle.palette_twins.specs.{TwoEqual, AllDiffer}
use Rattle.mapping.specs.{refusal_in}
use Rattle.grammar.specs.{most_decimal}
use Rattle.std.proofs.Common.{None, Ok}
use Rattle.p6.specs.{Picture, read_picture, raster_of}
use Rattle.texts.specs.{lines_of}
use Rattle.listing_lines.specs.{most_text, refused_text, field_at}
use Rattle.listing_test.specs.{small_rows}
use Rattle.listing_work.specs.{
  listed_limit,
  table_of,
  run_tests,
  palette_on,
  entries_on,
  mapped_raster,
  map_tests,
  work_tests,
}
use Rattle.listing_work.proofs.Accepted as accepted
use Rattle.listing_work.proofs.Mapped as mapped
use Rattle.listing.specs.Refusals.{bad_line, CountLine, count_in, picture_in, input_rows, listing_rows}
use Rattle.listing.specs.Listings.{listing_lines, picture_text, listing_text, listing_of}
use Rattle.listing.specs.declared.Listing.{Listing}
use Rattle.listing.proofs.Fronts as fronts
use Rattle.listing.proofs.Numbers as numbers
use Rattle.listing.proofs.Orders as orders
use Rattle.listing.proofs.Texts as texts

-- ---- the contract leaves one answer

-- Whatever meets the contract of `list_shades` on an input is one answer.
pub listing-only : (s : List ℕ) {r r' : Listing} → r ≡ listing_of s → r' ≡ listing_of s → r ≡ r'
listing-only s a b = a ∙ sym b

-- The text is never longer than the answer has room.
pub text-most : (s : List ℕ) → length (listing_text s) ≤ most_text
text-most = texts.text-most

-- ---- which text it is

-- An input whose count line, length or picture is refused gives that line, by the first test that holds.
pub input-refused : (s : List ℕ) (n : Refusal) → Given (input_rows s) n → listing_text s ≡ refused_text (number_of n)
input-refused = texts.input-refused

-- Else it gives the text of the picture behind the count line, with the count that this line names.
pub input-accepted : (s : List ℕ) → NoneHolds (input_rows s) → listing_text s ≡ picture_text (picture_in s) (count_in s)
input-accepted = texts.input-accepted

-- A picture whose run or mapping is refused gives that line, alone.
pub picture-refused : (p : List ℕ) (count : ℕ) (n : Refusal) → Given (work_tests p count) n
    → picture_text p count ≡ refused_text (number_of n)
picture-refused = texts.picture-refused

-- Else it gives its lines.
pub picture-accepted : (p : List ℕ) (count : ℕ) → NoneHolds (work_tests p count)
    → picture_text p count ≡ lines_of (listing_lines p count)
picture-accepted = texts.picture-accepted

-- ---- exactly when

-- The count line is malformed exactly unless the input begins with one or two digits and LF.
pub bad-line-exactly : (s : List ℕ) → (bad_line s ≡ false) ↔ CountLine s
bad-line-exactly = fronts.bad-line-exactly

-- `refused N` is printed exactly when N is given by the first test that holds: those of the input, then those of the
-- run, then those of the mapping.
pub listing-refused-exactly : (s : List ℕ) (n : Refusal)
    → (listing_text s ≡ refused_text (number_of n)) ↔ Given (listing_rows s) n
listing-refused-exactly = orders.listing-refused-exactly

-- Lines are printed exactly when none holds.
pub listing-accepted-exactly : (s : List ℕ)
    → (listing_text s ≡ lines_of (listing_lines (picture_in s) (count_in s))) ↔ NoneHolds (listing_rows s)
listing-accepted-exactly = orders.listing-accepted-exactly

-- Where input and run are accepted, `refused 18` is printed exactly when two entries of the run's palette are equal.
pub twins-listed-exactly : (s : List ℕ) → NoneHolds (input_rows s) → NoneHolds (run_tests (picture_in s) (count_in s))
    → (listing_text s ≡ refused_text (number_of TwinShade)) ↔ TwoEqual (entries_on (picture_in s) (count_in s))
twins-listed-exactly = orders.twins-listed-exactly

-- ---- the numbers in the lines

-- There is a line for each shade, one before them and one behind.
pub lines-count : (s : List ℕ) → NoneHolds (listing_rows s)
    → length (listing_lines (picture_in s) (count_in s)) ≡ count_in s + 2
lines-count = numbers.lines-of-input

-- The pixels mapped to the shades, the last fields of their lines, add up to the pixels in line 1, and these are
-- width × height of the picture, which is read.
pub pixels-add : (s : List ℕ) → NoneHolds (listing_rows s)
    → (let lines = listing_lines (picture_in s) (count_in s) in
    (sum (count_in s) (λ q. field_at lines (suc q) 4) ≡ field_at lines 0 1)
    × (picture : Picture) × (read_picture (picture_in s) ≡ Ok picture)
    × (field_at lines 0 1 ≡ picture.width * picture.height))
pixels-add = numbers.pixels-of-input

-- The rounds in line 1 are at most 20.
pub rounds-most : (s : List ℕ) → NoneHolds (listing_rows s)
    → field_at (listing_lines (picture_in s) (count_in s)) 0 2 ≤ listed_limit
rounds-most = numbers.rounds-of-input

-- Every number printed is below 10 ^ 20, so that its text is that of the number, whole.
pub numbers-small : (s : List ℕ) → NoneHolds (listing_rows s) → Bytes s → (i j : ℕ)
    → field_at (listing_lines (picture_in s) (count_in s)) i j < 10 ^ most_decimal
numbers-small = numbers.numbers-of-input

-- The shades that are told all differ.
pub listed-differ : (s : List ℕ) → NoneHolds (listing_rows s) → AllDiffer (entries_on (picture_in s) (count_in s))
listed-differ = numbers.differ-of-input

-- ---- what is never refused there

-- Adding a picture that passes its tests is accepted: there is room for as many colours as it has pixels.
pub adding-accepted : (p : List ℕ) → first_of (small_rows p) ≡ done → (table_of p).answer.refusal ≡ None
adding-accepted = accepted.adding-accepted

-- And a run on it is refused by the count or for want of colours alone.
pub run-refusals : (p : List ℕ) → first_of (small_rows p) ≡ done → Bytes (raster_of p) → (count : ℕ) (n : Refusal)
    → Given (run_tests p count) n → (n ≡ BadCount) ⊎ (n ≡ FewColours)
run-refusals = accepted.run-refusals

-- Where that run is accepted, making the palette of its last groups is accepted.
pub palette-accepted : (p : List ℕ) (count : ℕ) → first_of (small_rows p) ≡ done → first_of (run_tests p count) ≡ done
    → result_err (palette_on p count).answer ≡ None
palette-accepted = mapped.palette-accepted

-- And mapping the picture to it is refused for twins alone.
pub mapping-refusals : (p : List ℕ) (count : ℕ) → first_of (small_rows p) ≡ done → first_of (run_tests p count) ≡ done
    → (n : Refusal) → Given (map_tests p count) n → n ≡ TwinShade
mapping-refusals = mapped.mapping-refusals

-- So where all its entries differ it is accepted.
pub mapping-accepted : (p : List ℕ) (count : ℕ) → first_of (small_rows p) ≡ done → first_of (run_tests p count) ≡ done
    → AllDiffer (entries_on p count)
    → refusal_in (mapped_raster (raster_of p) (palette_on p count).palette count).answer ≡ None
mapping-accepted = mapped.mapping-accepted
