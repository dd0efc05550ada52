-- When a palette of groups is refused, and what the call leaves on every input.
use Rattle.std.specs.Prelude.{ℕ, ◌/◌, Bool, ◌||◌, List, [], ◌∷◌, Ok, length}
use Rattle.number.specs.{Group}
use Rattle.refusal.specs.{
  Row,
  row,
  outcome_by,
  BadTable,
  BadCount,
  BadCentre,
  ShortRoom,
  BadMember,
}
use Rattle.table_test.specs.{Record, bad_table}
use Rattle.shades.specs.{axis, bad_coordinates, bad_centre}
use Rattle.method.specs.{State, level_colours, on, group_at}
use Rattle.lloyd_tests.specs.{short_members, bad_member}
use Rattle.palette.specs.{PaletteOutcome, kept_palette, short_palette}
use Rattle.palette_means.specs.{group_palette}

-- the levels of channel e in the group of shade q, which has the used entries whose member is q: its W is the group's
-- pixel count, its S the sum of the levels, weights counted; 0 is red, 1 green, 2 blue
abbrev pub channel_group : Record → List ℕ → List ℕ → State → ℕ → ℕ → Group
channel_group rec ks ws a q e = on (axis e) (group_at (level_colours rec.used ks ws) a q)

-- SHORT ROOM: members fewer than the used entries, or palette bytes fewer than 3 for each shade
abbrev pub short_rooms : Record → State → List ℕ → Bool
short_rooms rec a palette = short_members rec a.members || short_palette a.coordinates palette

-- the order of a palette of groups: 2, 4, 8, 7, 9
abbrev pub group_rows : Record → List ℕ → List ℕ → State → List ℕ → List Row
group_rows rec ks ws a palette =
    row (bad_table rec ks ws) BadTable
    ∷ row (bad_coordinates (length a.coordinates)) BadCount
    ∷ row (bad_centre a.coordinates) BadCentre
    ∷ row (short_rooms rec a palette) ShortRoom
    ∷ row (bad_member rec.used (length a.coordinates / 3) a.members) BadMember
    ∷ []

-- where nothing is refused the palette is made; the first f shades are fixed
abbrev pub made_by_groups : ℕ → Record → List ℕ → List ℕ → State → List ℕ → PaletteOutcome
made_by_groups f rec ks ws a palette = record {
  answer = Ok tt;
  palette = group_palette f rec.used ks ws a palette;
}

-- the whole outcome of a call: no shade is fixed
unfoldable pub palette_from_groups : Record → List ℕ → List ℕ → State → List ℕ → PaletteOutcome
palette_from_groups rec ks ws a palette =
    outcome_by (group_rows rec ks ws a palette) (made_by_groups 0 rec ks ws a palette) (kept_palette palette)
