-- When a palette of groups whose first f shades are fixed is refused, and what the call leaves on every input.
use Rattle.std.specs.Prelude.{ℕ, ◌/◌, Bool, ◌||◌, List, [], ◌∷◌, length}
use Rattle.refusal.specs.{
  Row,
  row,
  outcome_by,
  BadTable,
  BadCount,
  BadCentre,
  ShortRoom,
  BadMember,
}
use Rattle.table_test.specs.{Record, bad_table}
use Rattle.shades.specs.{bad_coordinates, bad_centre}
use Rattle.method.specs.{State}
use Rattle.lloyd_tests.specs.{no_free, bad_member}
use Rattle.palette.specs.{PaletteOutcome, kept_palette}
use Rattle.palette_groups.specs.Outcomes.{short_rooms, made_by_groups}

-- BAD COUNT: coordinates not 3 to 192 or not a multiple of 3, or, the first f of their shades fixed, none left free
abbrev pub bad_group_count : ℕ → State → Bool
bad_group_count f a = bad_coordinates (length a.coordinates) || no_free f (length a.coordinates / 3)

-- the order of a palette of groups, the first f shades fixed: 2, 4, 8, 7, 9
abbrev pub group_rows_fixed : ℕ → Record → List ℕ → List ℕ → State → List ℕ → List Row
group_rows_fixed f rec ks ws a palette =
    row (bad_table rec ks ws) BadTable
    ∷ row (bad_group_count f a) BadCount
    ∷ row (bad_centre a.coordinates) BadCentre
    ∷ row (short_rooms rec a palette) ShortRoom
    ∷ row (bad_member rec.used (length a.coordinates / 3) a.members) BadMember
    ∷ []

-- the whole outcome of a call, the first f shades fixed
unfoldable pub palette_from_groups_fixed : ℕ → Record → List ℕ → List ℕ → State → List ℕ → PaletteOutcome
palette_from_groups_fixed f rec ks ws a palette =
    outcome_by (group_rows_fixed f rec ks ws a palette) (made_by_groups f rec ks ws a palette) (kept_palette palette)
