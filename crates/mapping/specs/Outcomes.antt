-- When a mapping is refused, and what it leaves on every input: the answer, and the index picture.
use Rattle.std.specs.Prelude.{
  ℕ,
  ◌+◌,
  Bool,
  cond,
  List,
  [],
  ◌∷◌,
  Option,
  None,
  Some,
  Result,
  Ok,
  Err,
  ◌≡◌,
  ltb,
  eqb,
  Float,
  length,
}
use Rattle.number.specs.{fill_from}
use Rattle.refusal.specs.{
  Refusal,
  Row,
  row,
  outcome_by,
  number_of,
  BadStrip,
  BadPalette,
  TwinShade,
  ManyPixels,
  ShortRoom,
}
use Rattle.colour.specs.{bad_strip, most_pixels}
use Rattle.palette.specs.{bad_palette}
use Rattle.palette_twins.specs.{Twins, twin_shade, twins_of}
use Rattle.figures.specs.{zero_figure, mean_figure, channel_means, mean_number, mean_values}
use Rattle.map_errors.specs.{Errors}
use Rattle.map_blocks.specs.{pixel_count, entry_for, errors_of, error_of}
use Rattle.mapping.specs.declared.Mapped.{Mapped}
use Rattle.mapping.specs.declared.Unmapped.{Unmapped}

-- MANY PIXELS: mapping over 16,777,216 pixels
abbrev pub many_pixels : List ℕ → Bool
many_pixels strip = ltb most_pixels (pixel_count strip)

-- SHORT ROOM: the stretch's first place plus the strip's pixels above the index length
abbrev pub short_index : List ℕ → List ℕ → ℕ → Bool
short_index strip index first = ltb (length index) (first + pixel_count strip)

-- the order of a mapping: 1, 10, 18, 11, 7
abbrev pub map_rows : List ℕ → List ℕ → List ℕ → ℕ → List Row
map_rows strip palette index first =
    row (bad_strip strip) BadStrip
    ∷ row (bad_palette palette) BadPalette
    ∷ row (twin_shade palette) TwinShade
    ∷ row (many_pixels strip) ManyPixels
    ∷ row (short_index strip index first) ShortRoom
    ∷ []

-- the answer, and the index picture at exit
pub record MapOutcome : Type 0 where
  pub answer : Result Mapped Unmapped
  pub index : List ℕ

-- an answer with this error, these errors, and the figures of these and so many pixels
abbrev pub answer_with : ℕ → Errors → ℕ → Mapped
answer_with error errors pixels = record {
  error = error;
  errors = errors;
  mean = mean_figure error pixels;
  means = channel_means errors.red errors.green errors.blue pixels;
}

-- the answer of a strip with these errors and so many pixels: the error is the channels' sum
abbrev pub answer_of : Errors → ℕ → Mapped
answer_of errors pixels = answer_with (errors.red + errors.green + errors.blue) errors pixels

-- the twins that a refusal tells: those of the palette with TWIN SHADE, none with any other
abbrev pub twins_told : List ℕ → Refusal → Option Twins
twins_told palette n = cond (eqb (number_of n) (number_of TwinShade)) (twins_of palette) None

-- why a strip is not mapped to this palette: the refusal, and the twins that it tells
abbrev pub unmapped : List ℕ → Refusal → Unmapped
unmapped palette n = record { refusal = n; twins = twins_told palette n }

-- the refusal of a call that answers so, if it is refused
abbrev pub refusal_in : Result Mapped Unmapped → Option Refusal
refusal_in (Ok r) = None
refusal_in (Err u) = Some u.refusal

-- the twins that such an answer tells: none where it is accepted
abbrev pub answered_twins : Result Mapped Unmapped → Option Twins
answered_twins (Ok r) = None
answered_twins (Err u) = u.twins

-- the errors and figures of such an answer: zeros, and the figures of no pixels, where it is refused
abbrev pub mapped_in : Result Mapped Unmapped → Mapped
mapped_in (Ok r) = r
mapped_in (Err u) = answer_with 0 (record { red = 0; green = 0; blue = 0 }) 0

-- a strip mapped: the error is the sum of squared level differences, the figures are those of the strip, and its
-- stretch of the index picture holds the numbers of the nearest entries
abbrev pub made_map : List ℕ → List ℕ → List ℕ → ℕ → MapOutcome
made_map strip palette index first =
    let n = pixel_count strip in
    record {
      answer = Ok (answer_with (error_of palette strip n) (errors_of palette strip n) n);
      index = fill_from first n (entry_for palette strip) index;
    }

-- a refusal: no index byte changes
abbrev pub kept_map : List ℕ → List ℕ → Refusal → MapOutcome
kept_map palette index n = record { answer = Err (unmapped palette n); index = index }

-- the whole outcome of a call
unfoldable pub map_strip : List ℕ → List ℕ → List ℕ → ℕ → MapOutcome
map_strip strip palette index first =
    outcome_by (map_rows strip palette index first) (made_map strip palette index first) (kept_map palette index)

-- the contract: answer and index picture are those of the outcome
pub record MapMeets (o : MapOutcome) (r : Result Mapped Unmapped) (index : List ℕ) : Type 0 where
  pub answer : r ≡ o.answer
  pub index_is : index ≡ o.index

-- a fact of each of the four errors in an answer
pub record OfEachError (r : Mapped) (F : ℕ → Type 0) : Type 0 where
  pub whole : F r.error
  pub red : F r.errors.red
  pub green : F r.errors.green
  pub blue : F r.errors.blue

-- the mean holds one figure, and a fact of each of the four figures in an answer and its own error
pub record OfEachFigure (r : Mapped) (F : Float → ℕ → Type 0) : Type 0 where
  pub number : mean_number r.mean ≡ 1
  pub mean : Float
  pub values : mean_values r.mean ≡ mean ∷ []
  pub whole : F mean r.error
  pub red : F r.means.red r.errors.red
  pub green : F r.means.green r.errors.green
  pub blue : F r.means.blue r.errors.blue

-- the mean says "no pixels", and the channel means are zeros
pub record NoFigure (r : Mapped) : Type 0 where
  pub number : mean_number r.mean ≡ 0
  pub values : mean_values r.mean ≡ []
  pub zeros : r.means ≡ record { red = zero_figure; green = zero_figure; blue = zero_figure }
