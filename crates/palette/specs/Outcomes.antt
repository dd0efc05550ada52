-- When a palette is refused, and what the call leaves on every input.
use Rattle.std.specs.Prelude.{ℕ, ◌*◌, ◌/◌, Bool, List, [], ◌∷◌, ◌≡◌, Result, Ok, Err, ltb, length}
use Rattle.refusal.specs.{Refusal, Row, row, outcome_by, BadCount, BadCentre, ShortRoom}
use Rattle.shades.specs.{bad_coordinates, bad_centre}
use Rattle.palette.specs.Palettes.{palette_of}

-- BAD PALETTE: palette bytes not 3 to 192 or not a multiple of 3; the same test as that of lent coordinates
abbrev pub bad_palette : List ℕ → Bool
bad_palette palette = bad_coordinates (length palette)

-- SHORT ROOM: palette bytes fewer than 3 for each shade
abbrev pub short_palette : List ℕ → List ℕ → Bool
short_palette coordinates palette = ltb (length palette) (3 * (length coordinates / 3))

-- the order of a palette from shades: 4, 8, 7
abbrev pub palette_rows : List ℕ → List ℕ → List Row
palette_rows coordinates palette =
    row (bad_coordinates (length coordinates)) BadCount
    ∷ row (bad_centre coordinates) BadCentre
    ∷ row (short_palette coordinates palette) ShortRoom
    ∷ []

-- the answer, and the lent palette at exit
pub record PaletteOutcome : Type 0 where
  pub answer : Result (Unit {0}) Refusal
  pub palette : List ℕ

-- where nothing is refused the palette is made
abbrev pub made_palette : List ℕ → List ℕ → PaletteOutcome
made_palette coordinates palette = record { answer = Ok tt; palette = palette_of coordinates palette }

-- a refused call answers its refusal, and no byte changes
abbrev pub kept_palette : List ℕ → Refusal → PaletteOutcome
kept_palette palette n = record { answer = Err n; palette = palette }

-- the whole outcome of a call
unfoldable pub palette_from_shades : List ℕ → List ℕ → PaletteOutcome
palette_from_shades coordinates palette =
    outcome_by (palette_rows coordinates palette) (made_palette coordinates palette) (kept_palette palette)

-- the contract: answer and palette are those of the outcome
pub record PaletteMeets (o : PaletteOutcome) (r : Result (Unit {0}) Refusal) (palette : List ℕ) : Type 0 where
  pub answer : r ≡ o.answer
  pub palette_is : palette ≡ o.palette
