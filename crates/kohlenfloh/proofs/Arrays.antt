-- An outcome crosses: what meets the contract beneath meets that of the boundary, its answer laid into arrays.
use Prim.Native.Nat.{ℕ}
use mathlib.Core.List.{List, [], ◌∷◌}
use mathlib.Core.Path.{◌≡◌, sym, ap, ◌∙◌}
use lib.Ieee.{Float}
use Rattle.refusal.specs.{number_in, Refusal}
use Rattle.table.specs.{Record, Added, Outcome, AddMeets, add_strip}
use Rattle.lloyd.specs.{Rounded, RoundOutcome, RoundMeets, Ran, RunOutcome, RunMeets}
use Rattle.std.specs.Prelude.{Result}
use Rattle.std.specs.Result.{result_err}
use Rattle.palette.specs.{PaletteOutcome, PaletteMeets}
use Rattle.mapping.specs.{Mapped, MapOutcome, MapMeets, Unmapped, refusal_in}
use Rattle.arrays.specs.{record_numbers, round_numbers, run_numbers, map_numbers, map_figures, picture_numbers}
use Rattle.kohlenfloh.specs.Crossing.{AddCrosses, RoundCrosses, RunCrosses, MapCrosses, PaletteCrosses, PictureCrosses}
use Rattle.p6.specs.{Picture}

-- an add, its record read from an array and laid into one
pub add-crosses : {came rec : Record} {ks ws strip ks' ws' left : List ℕ} {a : Added} {n : ℕ}
    → came ≡ rec → AddMeets came ks ws strip a ks' ws' → left ≡ record_numbers a.rec → n ≡ number_in a.refusal
    → AddCrosses (add_strip rec ks ws strip) n left ks' ws' (a.taken ∷ [])
add-crosses {ks = ks} {ws = ws} {strip = strip} same meets laid told =
    let o : Record → Outcome = λ rec. add_strip rec ks ws strip in
    record {
      number =
          told
          ∙ ap (λ b. number_in b.refusal) meets.answer
          ∙ ap (λ rec. number_in (o rec).answer.refusal) same;
      rec_is =
          laid
          ∙ ap (λ b. record_numbers b.rec) meets.answer
          ∙ ap (λ rec. record_numbers (o rec).answer.rec) same;
      keys_are = meets.keys ∙ ap (λ rec. (o rec).keys) same;
      weights_are = meets.weights ∙ ap (λ rec. (o rec).weights) same;
      taken_is = ap (λ b. b.taken ∷ []) meets.answer ∙ ap (λ rec. (o rec).answer.taken ∷ []) same;
    }

-- the contract of a round leaves one number, and one content of each slice and array
pub round-only : {o : RoundOutcome} {r r' : ℕ} {x x' y y' t t' : List ℕ}
    → RoundCrosses o r x y t → RoundCrosses o r' x' y' t' → (r ≡ r') × (x ≡ x') × (y ≡ y') × (t ≡ t')
round-only a b = (
  a.number ∙ sym b.number,
  a.coordinates_are ∙ sym b.coordinates_are,
  a.members_are ∙ sym b.members_are,
  a.answer_is ∙ sym b.answer_is,
)

-- and that of a run, whatever its rule
pub run_only : {o : RunOutcome} {r r' : ℕ} {x x' y y' shades shades' t t' : List ℕ}
    → RunCrosses o r x y shades t → RunCrosses o r' x' y' shades' t'
    → (r ≡ r') × (x ≡ x') × (y ≡ y') × (shades ≡ shades') × (t ≡ t')
run_only a b = (
  a.number ∙ sym b.number,
  a.members_are ∙ sym b.members_are,
  a.totals_are ∙ sym b.totals_are,
  a.shades_are ∙ sym b.shades_are,
  a.answer_is ∙ sym b.answer_is,
)

-- a palette, from shades or of groups
pub palette-crosses : {o : PaletteOutcome} {a : Result (Unit {0}) Refusal} {palette : List ℕ} {r : ℕ}
    → PaletteMeets o a palette → r ≡ number_in (result_err a) → PaletteCrosses o r palette
palette-crosses meets told = record {
  number = told ∙ ap (λ b. number_in (result_err b)) meets.answer;
  palette_is = meets.palette_is;
}

-- the contract of a palette leaves one number and one content of the bytes
pub palette-only : {o : PaletteOutcome} {r r' : ℕ} {x x' : List ℕ}
    → PaletteCrosses o r x → PaletteCrosses o r' x' → (r ≡ r') × (x ≡ x')
palette-only a b = (a.number ∙ sym b.number, a.palette_is ∙ sym b.palette_is)

-- a mapping
pub map-crosses : {o : MapOutcome} {a : Result Mapped Unmapped} {r : ℕ} {index answer : List ℕ} {means : List Float}
    → MapMeets o a index → answer ≡ map_numbers a → means ≡ map_figures a → r ≡ number_in (refusal_in a)
    → MapCrosses o r index answer means
map-crosses meets laid figured told = record {
  number = told ∙ ap (λ b. number_in (refusal_in b)) meets.answer;
  index_is = meets.index_is;
  answer_is = laid ∙ ap map_numbers meets.answer;
  means_are = figured ∙ ap map_figures meets.answer;
}
