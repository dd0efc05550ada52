-- What a grouping from the former shades asks.
use Rattle.std.specs.Prelude.{ℕ, ◌≤◌, ◌<◌, Bool, true, false, List, get_or, length}
use Rattle.shades.specs.{Shades}
use Rattle.table_entries.specs.{Tabled}
use Rattle.search_rows.specs.{Rows}
use Rattle.search_gaps.specs.{Gaps}
use Rattle.groups.specs.declared.Kind.{Kind}
use Rattle.groups.specs.declared.Kind.TheVariants.{Gaps as OfGaps, Rising}

-- a table, some shades, and a former shade for each entry
pub record Groupable (used : ℕ) (ks ws s : List ℕ) (k : ℕ) (members : List ℕ) : Type 0 where
  pub table : Tabled used ks ws
  pub shades : Shades k s
  pub some : 0 < k
  pub room : used ≤ length members
  pub joined : (i : ℕ) → i < used → get_or members i 0 < k

-- are the rows of gaps?
abbrev pub of_gaps : Kind → Bool
of_gaps OfGaps = true
of_gaps Rising = false

-- rows for the shortened search: of gaps where the table is small, else rows that rise
abbrev pub Tracks : Bool → List ℕ → ℕ → List ℕ → Type 0
Tracks true s k g = Gaps s k g
Tracks false s k g = Rows s k g
