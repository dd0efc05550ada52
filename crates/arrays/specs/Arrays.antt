-- How records and answers lie in arrays.
use Rattle.std.specs.Prelude.{ℕ, List, [], ◌∷◌, Float, get_or, Ok, Err, replicate, Result, Option, None, Some}
use Rattle.number.specs.{bit}
use Rattle.refusal.specs.{Refusal}
use Rattle.table.specs.{Record}
use Rattle.lloyd.specs.{Rounded, Ran}
use Rattle.figures.specs.{zero_figure, mean_number}
use Rattle.palette_twins.specs.{Twins, told_pair}
use Rattle.mapping.specs.{Mapped, Unmapped}
use Rattle.p6.specs.{PictureReading, Picture}

-- the record in an array: used entries, pixels, and the sums of R, G and B
abbrev pub record_in : List ℕ → Record
record_in s = record {
  used = get_or s 0 0;
  pixels = get_or s 1 0;
  red = get_or s 2 0;
  green = get_or s 3 0;
  blue = get_or s 4 0;
}

-- a record as an array
abbrev pub record_numbers : Record → List ℕ
record_numbers rec = rec.used ∷ rec.pixels ∷ rec.red ∷ rec.green ∷ rec.blue ∷ []

-- the answer of a round: total, shades moved, distances; zeros for a refusal
abbrev pub round_numbers : Result Rounded Refusal → List ℕ
round_numbers (Ok r) = r.total ∷ r.moved ∷ r.distances ∷ []
round_numbers (Err n) = 0 ∷ 0 ∷ 0 ∷ []

-- the answer of a run, its shades apart: rounds made, settled as 1 or 0, distances, final total; zeros for a refusal
abbrev pub run_numbers : Result Ran Refusal → List ℕ
run_numbers (Ok r) = r.rounds ∷ bit r.settled ∷ r.distances ∷ r.total ∷ []
run_numbers (Err n) = 0 ∷ 0 ∷ 0 ∷ 0 ∷ []

-- the shades of a run, zeros for a refusal
abbrev pub run_shades : Result Ran Refusal → List ℕ
run_shades (Ok r) = r.shades
run_shades (Err n) = replicate 192 0

-- the errors of a mapping: the whole, R, G, B; then 1 where there is a mean, 0 for "no pixels"; then the lower and the
-- higher number of the twins. Of a refused one zeros, but for the twins
abbrev pub map_numbers : Result Mapped Unmapped → List ℕ
map_numbers (Ok r) = r.error ∷ r.errors.red ∷ r.errors.green ∷ r.errors.blue ∷ mean_number r.mean ∷ 0 ∷ 0 ∷ []
map_numbers (Err u) = 0 ∷ 0 ∷ 0 ∷ 0 ∷ 0 ∷ (told_pair u.twins).lower ∷ (told_pair u.twins).higher ∷ []

-- the twins in that answer
abbrev pub twins_in : List ℕ → Twins
twins_in s = record { lower = get_or s 5 0; higher = get_or s 6 0 }

-- a mean's figure, zero for "no pixels"
abbrev pub figure_in : Option Float → Float
figure_in None = zero_figure
figure_in (Some x) = x

-- the figures of a mapping: the mean, then those of R, G, B. Of a refused one zeros
abbrev pub map_figures : Result Mapped Unmapped → List Float
map_figures (Ok r) = figure_in r.mean ∷ r.means.red ∷ r.means.green ∷ r.means.blue ∷ []
map_figures (Err u) = zero_figure ∷ zero_figure ∷ zero_figure ∷ zero_figure ∷ []

-- the answer of a reading: offset, width, height, the raster's first place; zeros for what it does not tell
abbrev pub picture_numbers : PictureReading → List ℕ
picture_numbers (Ok picture) = 0 ∷ picture.width ∷ picture.height ∷ picture.start ∷ []
picture_numbers (Err fault) = fault.offset ∷ 0 ∷ 0 ∷ 0 ∷ []
