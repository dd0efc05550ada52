-- When a single round is refused: the order of the rows of each call.
use Rattle.std.specs.Prelude.{ℕ, ◌/◌, List, [], ◌∷◌, ◌++◌, length}
use Rattle.refusal.specs.{Row, row, BadTable, BadCount, ShortRoom, BadCentre, BadMember}
use Rattle.table_test.specs.{Record, bad_table}
use Rattle.shades.specs.{bad_coordinates, bad_centre}
use Rattle.method.specs.{State}
use Rattle.lloyd_tests.specs.{short_members, bad_member}

-- the order of a plain round: 2, 4, 8, 7
abbrev pub plain_rows : Record → List ℕ → List ℕ → State → List Row
plain_rows rec ks ws a =
    row (bad_table rec ks ws) BadTable
    ∷ row (bad_coordinates (length a.coordinates)) BadCount
    ∷ row (bad_centre a.coordinates) BadCentre
    ∷ row (short_members rec a.members) ShortRoom
    ∷ []

-- the row that a shortened round has besides: 9
abbrev pub member_row : Record → State → Row
member_row rec a = row (bad_member rec.used (length a.coordinates / 3) a.members) BadMember

-- the order of a shortened round: that of a plain one, and then 9
abbrev pub short_rows : Record → List ℕ → List ℕ → State → List Row
short_rows rec ks ws a = plain_rows rec ks ws a ++ (member_row rec a ∷ [])
