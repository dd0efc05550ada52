-- The contracts of the boundary: the number, the arrays and the slices that a call leaves are those of the outcome of
-- the call beneath it.
use Rattle.std.specs.Prelude.{ℕ, List, [], ◌∷◌, ◌≡◌, Float}
use Rattle.std.specs.Result.{result_err}
use Rattle.refusal.specs.{number_in}
use Rattle.table.specs.{Outcome}
use Rattle.lloyd.specs.{RoundOutcome, RunOutcome}
use Rattle.palette.specs.{PaletteOutcome}
use Rattle.mapping.specs.{MapOutcome, refusal_in}
use Rattle.p6.specs.{PictureReading}
use Rattle.p6.specs.{refusal_in as picture_refusal_in}
use Rattle.arrays.specs.{
  record_numbers,
  round_numbers,
  run_numbers,
  run_shades,
  map_numbers,
  map_figures,
  picture_numbers,
}

-- adding: the record's array, both slices, and the pixels taken
pub record AddCrosses (o : Outcome) (r : ℕ) (rec keys weights taken : List ℕ) : Type 0 where
  pub number : r ≡ number_in o.answer.refusal
  pub rec_is : rec ≡ record_numbers o.answer.rec
  pub keys_are : keys ≡ o.keys
  pub weights_are : weights ≡ o.weights
  pub taken_is : taken ≡ o.answer.taken ∷ []

-- a round, plain or shortened
pub record RoundCrosses (o : RoundOutcome) (r : ℕ) (coordinates members answer : List ℕ) : Type 0 where
  pub number : r ≡ number_in (result_err o.answer)
  pub coordinates_are : coordinates ≡ o.state.coordinates
  pub members_are : members ≡ o.state.members
  pub answer_is : answer ≡ round_numbers o.answer

-- a run
pub record RunCrosses (o : RunOutcome) (r : ℕ) (members totals shades answer : List ℕ) : Type 0 where
  pub number : r ≡ number_in (result_err o.answer)
  pub members_are : members ≡ o.members
  pub totals_are : totals ≡ o.totals
  pub shades_are : shades ≡ run_shades o.answer
  pub answer_is : answer ≡ run_numbers o.answer

-- a palette
pub record PaletteCrosses (o : PaletteOutcome) (r : ℕ) (palette : List ℕ) : Type 0 where
  pub number : r ≡ number_in (result_err o.answer)
  pub palette_is : palette ≡ o.palette

-- a mapping
pub record MapCrosses (o : MapOutcome) (r : ℕ) (index answer : List ℕ) (means : List Float) : Type 0 where
  pub number : r ≡ number_in (refusal_in o.answer)
  pub index_is : index ≡ o.index
  pub answer_is : answer ≡ map_numbers o.answer
  pub means_are : means ≡ map_figures o.answer

-- a picture
pub record PictureCrosses (p : PictureReading) (r : ℕ) (answer : List ℕ) : Type 0 where
  pub number : r ≡ number_in (picture_refusal_in p)
  pub answer_is : answer ≡ picture_numbers p
