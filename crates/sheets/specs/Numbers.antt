-- What a definition gives, in rows of numbers: all that the answer says, and every lent slice at exit.
use Rattle.std.specs.Prelude.{ℕ, List, [], ◌∷◌, ◌++◌, map, replicate, pos, negsuc, Float, Result, Ok, Err, Option}
use Rattle.std.specs.Result.{result_err}
use Rattle.std.specs.Float.{nan, inf, fin}
use Rattle.number.specs.{bit}
use Rattle.refusal.specs.{number_in, Refusal}
use Rattle.table.specs.{Outcome}
use Rattle.lloyd.specs.{RoundOutcome, RunOutcome, Rounded, Ran}
use Rattle.shades.specs.{most_coordinates}
use Rattle.palette.specs.{PaletteOutcome}
use Rattle.palette_twins.specs.{told_pair}
use Rattle.figures.specs.{mean_number, mean_values}
use Rattle.mapping.specs.{MapOutcome, refusal_in, mapped_in, answered_twins}

-- of an add: refusal and taken; the record: used, pixels, and the sums of R, G and B; the keys; the weights
abbrev pub add_sheet : Outcome → List (List ℕ)
add_sheet o =
    (number_in o.answer.refusal ∷ o.answer.taken ∷ [])
    ∷ (o.answer.rec.used
    ∷ o.answer.rec.pixels
    ∷ o.answer.rec.red
    ∷ o.answer.rec.green
    ∷ o.answer.rec.blue
    ∷ [])
    ∷ o.keys
    ∷ o.weights
    ∷ []

-- of what a single round answers: total, shades moved, distances; zeros for a refusal
abbrev pub round_row : Result Rounded Refusal → List ℕ
round_row (Ok r) = r.total ∷ r.moved ∷ r.distances ∷ []
round_row (Err n) = 0 ∷ 0 ∷ 0 ∷ []

-- of a single round: refusal, total, shades moved, distances; the coordinates; the members
abbrev pub round_sheet : RoundOutcome → List (List ℕ)
round_sheet o =
    (number_in (result_err o.answer) ∷ round_row o.answer)
    ∷ o.state.coordinates
    ∷ o.state.members
    ∷ []

-- of what a run answers: rounds, settled, distances, final total; zeros for a refusal
abbrev pub run_row : Result Ran Refusal → List ℕ
run_row (Ok r) = r.rounds ∷ bit r.settled ∷ r.distances ∷ r.total ∷ []
run_row (Err n) = 0 ∷ 0 ∷ 0 ∷ 0 ∷ []

-- of its shades; zeros for a refusal
abbrev pub shades_row : Result Ran Refusal → List ℕ
shades_row (Ok r) = r.shades
shades_row (Err n) = replicate most_coordinates 0

-- of a run: refusal, rounds, settled, distances, final total; the shades; the members; the totals
abbrev pub run_sheet : RunOutcome → List (List ℕ)
run_sheet o =
    (number_in (result_err o.answer) ∷ run_row o.answer)
    ∷ shades_row o.answer
    ∷ o.members
    ∷ o.totals
    ∷ []

-- of a palette: refusal; the bytes
abbrev pub palette_sheet : PaletteOutcome → List (List ℕ)
palette_sheet o = (number_in (result_err o.answer) ∷ []) ∷ o.palette ∷ []

-- of a figure: sign, significand, exponent of 2. No two figures have one row: that of a negative exponent is longer,
-- and what is not finite has fewer than three numbers.
abbrev pub figure_row : Float → List ℕ
figure_row nan = []
figure_row (inf s) = bit s ∷ []
figure_row (fin s m (pos e)) = bit s ∷ m ∷ e ∷ []
figure_row (fin s m (negsuc e)) = bit s ∷ m ∷ 0 ∷ e ∷ []

-- of a mean square error: how many figures it holds; these figures
abbrev pub mean_rows : Option Float → List (List ℕ)
mean_rows m = (mean_number m ∷ []) ∷ map figure_row (mean_values m)

-- of a mapping: refusal, error, the error of each channel, and the twins; the mean; the mean of each channel; the
-- index bytes
abbrev pub map_sheet : MapOutcome → List (List ℕ)
map_sheet o =
    let a = mapped_in o.answer in
    let twins = told_pair (answered_twins o.answer) in
    ((number_in (refusal_in o.answer)
    ∷ a.error
    ∷ a.errors.red
    ∷ a.errors.green
    ∷ a.errors.blue
    ∷ twins.lower
    ∷ twins.higher
    ∷ [])
    ∷ mean_rows a.mean)
    ++ figure_row a.means.red
    ∷ figure_row a.means.green
    ∷ figure_row a.means.blue
    ∷ o.index
    ∷ []
