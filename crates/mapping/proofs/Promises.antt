-- What is shown of mapping, each theorem in full; its body names the proof.
-- `map_strip s p d a` is the outcome of mapping the strip s to the palette p in the index picture d from place a on
-- (specs/Outcomes.antt): the contract of `map_strip` says that its answer and the index picture are those of this
-- outcome, on every input.
use Prim.Native.Nat.{ℕ, ◌+◌, ◌^◌, ◌≤◌, ◌<◌}
use mathlib.Core.Bool.{true, false}
use mathlib.Core.List.{List, [], ◌∷◌}
use mathlib.Core.Logic.{◌↔◌}
use mathlib.Core.Path.{◌≡◌, sym, ◌∙◌}
use lib.ListN.{length, get_or}
use lib.Ieee.Exact.{HasValue}
use Rattle.std.specs.Prelude.{Result, None, Some}
use Rattle.std.specs.Option.{IsSomeAnd}
use Rattle.refusal.specs.{Refusal, Given, NoneHolds, TwinShade}
use Rattle.colour.specs.{bad_strip, joined_strips, EachWhole, Bytes, most_pixels}
use Rattle.palette.specs.{bad_palette}
use Rattle.palette_twins.specs.{TwoEqual, AreTwins, AllDiffer}
use Rattle.figures.specs.{most_exact, figure, mean_values, NearestTo, zero_figure}
use Rattle.map_blocks.specs.{pixel_count, NearestEntry, error_of, errors_of}
use Rattle.mapping.specs.Outcomes.{
  many_pixels,
  short_index,
  map_rows,
  refusal_in,
  answered_twins,
  mapped_in,
  kept_map,
  map_strip,
  MapMeets,
  OfEachError,
  OfEachFigure,
  NoFigure,
}
use Rattle.mapping.specs.Pieces.{left_by, in_strips, EachAccepted}
use Rattle.mapping.specs.declared.Mapped.{Mapped}
use Rattle.mapping.specs.declared.Unmapped.{Unmapped}
use Rattle.mapping.proofs.Meaning as meaning
use Rattle.mapping.proofs.Twins as twins
use Rattle.mapping.proofs.Answers as answers
use Rattle.mapping.proofs.Joins as joins

-- ---- the contract leaves one answer

-- Whatever meets the contract of `map_strip` on an input has one answer and one content of the index picture.
pub map-only : (s p d : List ℕ) (a : ℕ) {r r' : Result Mapped Unmapped} {x x' : List ℕ}
    → MapMeets (map_strip s p d a) r x
    → MapMeets (map_strip s p d a) r' x' → (r ≡ r') × (x ≡ x')
map-only s p d a m n = (m.answer ∙ sym n.answer, m.index_is ∙ sym n.index_is)

-- ---- refusals

-- A refusal is given exactly when its row is the first of 1, 10, 18, 11, 7 whose test holds.
pub map-refused-exactly : (s p d : List ℕ) (a : ℕ) (n : Refusal)
    → (refusal_in (map_strip s p d a).answer ≡ Some n) ↔ Given (map_rows s p d a) n
map-refused-exactly s p d a = (meaning.map-refuses s p d a).refused_exactly

-- A strip is mapped exactly when none of the five tests holds.
pub map-accepted-exactly : (s p d : List ℕ) (a : ℕ)
    → (refusal_in (map_strip s p d a).answer ≡ None) ↔ NoneHolds (map_rows s p d a)
map-accepted-exactly s p d a = (meaning.map-refuses s p d a).accepted_exactly

-- The test of MANY PIXELS holds exactly for more than 16,777,216 pixels.
pub many-pixels-exactly : (s : List ℕ) → (many_pixels s ≡ true) ↔ (most_pixels < pixel_count s)
many-pixels-exactly = meaning.many-pixels-exactly

-- The test of SHORT ROOM holds exactly when the first place plus the pixels, as whole numbers, is above the index
-- length.
pub short-index-exactly : (s d : List ℕ) (a : ℕ) → (short_index s d a ≡ true) ↔ (length d < a + pixel_count s)
short-index-exactly = meaning.short-index-exactly

-- A refused call answers its refusal and the twins told, and leaves every index byte as it came.
pub map-refused-kept : (s p d : List ℕ) (a : ℕ) (n : Refusal) → refusal_in (map_strip s p d a).answer ≡ Some n
    → map_strip s p d a ≡ kept_map p d n
map-refused-kept s p d a = (meaning.map-refuses s p d a).refused_is

-- ---- twins

-- TWIN SHADE is given exactly when two entries are equal, of a strip of whole pixels and a palette of 1 to 64 entries;
-- pixels and room are not looked at.
pub twins-refused-exactly : (s p d : List ℕ) (a : ℕ)
    → (refusal_in (map_strip s p d a).answer ≡ Some TwinShade)
    ↔ ((bad_strip s ≡ false) × (bad_palette p ≡ false) × TwoEqual p)
twins-refused-exactly = twins.twins-refused-exactly

-- It tells the lower and the higher number of two equal entries, the smallest higher number first: by `twins-only` of
-- palette_twins there is one such pair only.
pub twins-told : (s p d : List ℕ) (a : ℕ) → refusal_in (map_strip s p d a).answer ≡ Some TwinShade
    → IsSomeAnd (answered_twins (map_strip s p d a).answer) (AreTwins p)
twins-told = twins.twins-told

-- Any other refusal tells none, also where two entries are equal.
pub no-twins-refused : (s p d : List ℕ) (a : ℕ) (n : Refusal) → refusal_in (map_strip s p d a).answer ≡ Some n
    → ¬ (n ≡ TwinShade) → answered_twins (map_strip s p d a).answer ≡ None
no-twins-refused = twins.no-twins-refused

-- And so does an accepted call.
pub no-twins-accepted : (s p d : List ℕ) (a : ℕ) → refusal_in (map_strip s p d a).answer ≡ None
    → answered_twins (map_strip s p d a).answer ≡ None
no-twins-accepted = twins.no-twins-accepted

-- In an accepted call all entries of the palette differ: at a tie the nearest entries are unlike ones.
pub entries-differ : (s p d : List ℕ) (a : ℕ) → refusal_in (map_strip s p d a).answer ≡ None → AllDiffer p
entries-differ = twins.entries-differ

-- ---- the index picture of an accepted call

-- The byte of each pixel is the number of the nearest palette entry in whole levels, the lowest at a tie.
pub index-is-nearest : (s p d : List ℕ) (a : ℕ) → refusal_in (map_strip s p d a).answer ≡ None → (i : ℕ)
    → i < pixel_count s → NearestEntry p s i (get_or (map_strip s p d a).index (a + i) 0)
index-is-nearest = answers.index-is-nearest

-- Bytes before the stretch stay.
pub index-before : (s p d : List ℕ) (a : ℕ) → refusal_in (map_strip s p d a).answer ≡ None → (i : ℕ) → i < a
    → get_or (map_strip s p d a).index i 0 ≡ get_or d i 0
index-before = meaning.index-before

-- Bytes behind it stay.
pub index-behind : (s p d : List ℕ) (a : ℕ) → refusal_in (map_strip s p d a).answer ≡ None → (i : ℕ)
    → a + pixel_count s ≤ i → get_or (map_strip s p d a).index i 0 ≡ get_or d i 0
index-behind = meaning.index-behind

-- The index picture stays as long.
pub index-length : (s p d : List ℕ) (a : ℕ) → refusal_in (map_strip s p d a).answer ≡ None
    → length (map_strip s p d a).index ≡ length d
index-length = meaning.index-length

-- ---- its error and figures

-- The error is the sum of squared level differences of this strip, and the channel errors are those of each channel.
pub error-is : (s p d : List ℕ) (a : ℕ) → refusal_in (map_strip s p d a).answer ≡ None
    → ((mapped_in (map_strip s p d a).answer).error ≡ error_of p s (pixel_count s))
    × ((mapped_in (map_strip s p d a).answer).errors ≡ errors_of p s (pixel_count s))
error-is = answers.error-is

-- The channel errors add up to the error, in refused calls too.
pub channels-add : (s p d : List ℕ) (a : ℕ)
    → (mapped_in (map_strip s p d a).answer).errors.red + (mapped_in (map_strip s p d a).answer).errors.green
    + (mapped_in (map_strip s p d a).answer).errors.blue ≡ (mapped_in (map_strip s p d a).answer).error
channels-add = answers.channels-add

-- Each of the four errors is below 2 ^ 53, so that it is converted without loss.
pub errors-below : (s p d : List ℕ) (a : ℕ) → refusal_in (map_strip s p d a).answer ≡ None → Bytes s → Bytes p
    → OfEachError (mapped_in (map_strip s p d a).answer) (λ e. e < most_exact)
errors-below = answers.errors-below

-- With no pixels the mean says so, and the channel means are zeros.
pub mean-of-none : (s p d : List ℕ) (a : ℕ) → refusal_in (map_strip s p d a).answer ≡ None → pixel_count s ≡ 0
    → (mean_values (mapped_in (map_strip s p d a).answer).mean ≡ [])
    × ((mapped_in (map_strip s p d a).answer).means
    ≡ record { red = zero_figure; green = zero_figure; blue = zero_figure })
mean-of-none = answers.mean-of-none

-- With pixels the mean is the figure of error and pixels, and each channel's mean that of its own error.
pub mean-of-some : (s p d : List ℕ) (a : ℕ) → refusal_in (map_strip s p d a).answer ≡ None → 0 < pixel_count s
    → (mean_values (mapped_in (map_strip s p d a).answer).mean
    ≡ figure (mapped_in (map_strip s p d a).answer).error (pixel_count s) ∷ [])
    × ((mapped_in (map_strip s p d a).answer).means ≡ record {
      red = figure (mapped_in (map_strip s p d a).answer).errors.red (pixel_count s);
      green = figure (mapped_in (map_strip s p d a).answer).errors.green (pixel_count s);
      blue = figure (mapped_in (map_strip s p d a).answer).errors.blue (pixel_count s);
    })
mean-of-some = answers.mean-of-some

-- Each of these figures is the binary64 number nearest to its error by the pixels.
pub figures-nearest : (s p d : List ℕ) (a : ℕ) → refusal_in (map_strip s p d a).answer ≡ None → Bytes s → Bytes p
    → 0 < pixel_count s → OfEachError (mapped_in (map_strip s p d a).answer)
    (λ e. NearestTo (figure e (pixel_count s)) e (pixel_count s))
figures-nearest = answers.figures-nearest

-- With a pixel count that is a power of two each is exact.
pub figures-exact : (s p d : List ℕ) (a : ℕ) → refusal_in (map_strip s p d a).answer ≡ None → (k : ℕ) → Bytes s
    → Bytes p → pixel_count s ≡ 2 ^ k → OfEachError (mapped_in (map_strip s p d a).answer)
    (λ e. HasValue (figure e (2 ^ k)) false e (2 ^ k))
figures-exact = answers.figures-exact

-- So with pixels the answered mean holds one figure, the binary64 number nearest to error by pixels, and each answered
-- channel mean is the nearest to its own error by pixels.
pub means-nearest : (s p d : List ℕ) (a : ℕ) → refusal_in (map_strip s p d a).answer ≡ None → Bytes s → Bytes p
    → 0 < pixel_count s → OfEachFigure (mapped_in (map_strip s p d a).answer) (λ x e. NearestTo x e (pixel_count s))
means-nearest = answers.means-nearest

-- With a pixel count that is a power of two each of these four is of the value error / pixels itself.
pub means-exact : (s p d : List ℕ) (a : ℕ) → refusal_in (map_strip s p d a).answer ≡ None → (k : ℕ) → Bytes s → Bytes p
    → pixel_count s ≡ 2 ^ k
    → OfEachFigure (mapped_in (map_strip s p d a).answer) (λ x e. HasValue x false e (pixel_count s))
means-exact = answers.means-exact

-- With no pixels the answered mean says so: it holds no figure, and the channel means are zeros.
pub none-of-no-pixels : (s p d : List ℕ) (a : ℕ) → refusal_in (map_strip s p d a).answer ≡ None → pixel_count s ≡ 0
    → NoFigure (mapped_in (map_strip s p d a).answer)
none-of-no-pixels = answers.none-of-no-pixels

-- And so of every refusal.
pub none-of-refused : (s p d : List ℕ) (a : ℕ) (n : Refusal) → refusal_in (map_strip s p d a).answer ≡ Some n
    → NoFigure (mapped_in (map_strip s p d a).answer)
none-of-refused = answers.none-of-refused

-- ---- a picture in strips

-- A picture that is accepted whole is accepted strip by strip, each stretch beginning where the one before ended.
pub each-accepted : (ss : List (List ℕ)) (p d : List ℕ) (a : ℕ) → EachWhole ss
    → refusal_in (map_strip (joined_strips ss) p d a).answer ≡ None → EachAccepted ss p d a
each-accepted = joins.each-accepted

-- Then the index picture is the same, and the errors of the strips add up to those of the whole.
pub in-strips : (ss : List (List ℕ)) (p d : List ℕ) (a : ℕ) → EachWhole ss
    → refusal_in (map_strip (joined_strips ss) p d a).answer ≡ None
    → in_strips ss p d a ≡ left_by (map_strip (joined_strips ss) p d a)
in-strips = joins.in-strips
