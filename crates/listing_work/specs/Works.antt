-- What is listed, as values: what the calls on a picture leave, on every picture.
use Rattle.std.specs.Prelude.{ℕ, ◌*◌, ◌/◌, ◌≤◌, false, List, ◌++◌, length, take, replicate, Result, Ok, Err}
use Rattle.std.specs.Result.{result_unwrap_or}
use Rattle.number.specs.{bit}
use Rattle.refusal.specs.{Refusal, Row, outcome_by}
use Rattle.table.specs.{Record, Outcome, empty_record, add_strip}
use Rattle.shades.specs.{most_shades, most_coordinates}
use Rattle.lloyd.specs.{Ran, RunOutcome, run_of, run_rows}
use Rattle.palette.specs.{PaletteOutcome}
use Rattle.palette_runs.specs.{run_palette}
use Rattle.mapping.specs.{MapOutcome, mapped_in, map_rows, map_strip}
use Rattle.p6.specs.{raster_of}
use Rattle.listing_lines.specs.{Summary}
use Rattle.listing_test.specs.{most_listed}
use Rattle.listing_work.specs.declared.Work.{Work}

-- ---- the calls on a picture

-- 8,192 zeros: what every slice that a listing lends begins with
unfoldable pub listed_zeros : List ℕ
listed_zeros = replicate most_listed 0

-- the most rounds of a listed run
abbrev pub listed_limit : ℕ
listed_limit = 20

-- a zero for the total of each of them
abbrev pub listed_totals : List ℕ
listed_totals = replicate listed_limit 0

-- the table of a picture, in slices of 8,192 places
abbrev pub table_of : List ℕ → Outcome
table_of p = add_strip empty_record listed_zeros listed_zeros (raster_of p)

-- the run on it, of at most 20 rounds
abbrev pub run_on : List ℕ → ℕ → RunOutcome
run_on p count =
    run_of (table_of p).answer.rec (table_of p).keys (table_of p).weights count listed_limit listed_zeros
    listed_totals

-- zeros, in the place of a refused run's answer
abbrev pub no_run : Ran
no_run = record { shades = replicate most_coordinates 0; rounds = 0; settled = false; distances = 0; total = 0 }

-- what it answers
abbrev pub ran_on : List ℕ → ℕ → Ran
ran_on p count = result_unwrap_or (run_on p count).answer no_run

-- the run's tests, in their order
abbrev pub run_tests : List ℕ → ℕ → List Row
run_tests p count =
    run_rows (table_of p).answer.rec (table_of p).keys (table_of p).weights count listed_limit listed_zeros
    listed_totals

-- the palette of a run on a table, by its last groups, zeros behind it
abbrev pub palette_of_run : Record → List ℕ → List ℕ → Ran → List ℕ → ℕ → PaletteOutcome
palette_of_run rec ks ws ran members count = run_palette rec ks ws count ran members (replicate most_coordinates 0)

-- that of the run on a picture
abbrev pub palette_on : List ℕ → ℕ → PaletteOutcome
palette_on p count =
    palette_of_run (table_of p).answer.rec (table_of p).keys (table_of p).weights (ran_on p count)
    (run_on p count).members count

-- the entries of its shades
abbrev pub entries_on : List ℕ → ℕ → List ℕ
entries_on p count = take (3 * count) (palette_on p count).palette

-- a raster mapped to the first entries of a palette
abbrev pub mapped_raster : List ℕ → List ℕ → ℕ → MapOutcome
mapped_raster raster palette count = map_strip raster (take (3 * count) palette) listed_zeros 0

-- its tests, in their order
abbrev pub raster_tests : List ℕ → List ℕ → ℕ → List Row
raster_tests raster palette count = map_rows raster (take (3 * count) palette) listed_zeros 0

-- those of a picture and the palette of its run
abbrev pub map_tests : List ℕ → ℕ → List Row
map_tests p count = raster_tests (raster_of p) (palette_on p count).palette count

-- all tests of the calls on a picture: the run's, and then the mapping's
abbrev pub work_tests : List ℕ → ℕ → List Row
work_tests p count = run_tests p count ++ map_tests p count

-- ---- what they leave

-- what is told besides the shades
abbrev pub summary_of : Record → Ran → ℕ → Summary
summary_of rec ran error = record {
  used = rec.used;
  pixels = rec.pixels;
  rounds = ran.rounds;
  settled = bit ran.settled;
  total = ran.total;
  distances = ran.distances;
  error = error;
}

-- what is told of a raster, its table, and what a run on it answers and leaves
unfoldable pub work_run : List ℕ → Record → List ℕ → List ℕ → Ran → List ℕ → ℕ → Work
work_run raster rec ks ws ran members count =
    let palette = (palette_of_run rec ks ws ran members count).palette in
    record {
      summary = summary_of rec ran (mapped_in (mapped_raster raster palette count).answer).error;
      shades = count;
      palette = palette;
      pixels = length raster / 3;
      index = (mapped_raster raster palette count).index;
    }

-- what is left of them: that, or the mapping's refusal
unfoldable pub left_run : List ℕ → Record → List ℕ → List ℕ → Ran → List ℕ → ℕ → Result Work Refusal
left_run raster rec ks ws ran members count =
    outcome_by (raster_tests raster (palette_of_run rec ks ws ran members count).palette count)
    (Ok (work_run raster rec ks ws ran members count)) Err

-- what is told of a picture whose run and mapping are accepted
abbrev pub made_work : List ℕ → ℕ → Work
made_work p count =
    work_run (raster_of p) (table_of p).answer.rec (table_of p).keys (table_of p).weights (ran_on p count)
    (run_on p count).members count

-- what is left of a picture: that, or the refusal of the run or of the mapping
unfoldable pub work_picture : List ℕ → ℕ → Result Work Refusal
work_picture p count = outcome_by (work_tests p count) (Ok (made_work p count)) Err

-- at most 64 shades, an entry of the palette for each, and a place of the index picture for each pixel
pub record Fits (w : Work) : Type 0 where
  pub few : w.shades ≤ most_shades
  pub palette : 3 * w.shades ≤ length w.palette
  pub index : w.pixels ≤ length w.index

-- what is left fits where nothing is refused
abbrev pub LeftFits : Result Work Refusal → Type 0
LeftFits (Ok w) = Fits w
LeftFits (Err n) = Unit {0}
