-- What the walk along a row asks.
use Rattle.std.specs.Prelude.{ℕ, ◌<◌, List}
use Rattle.colour.specs.{Point, Within, most_coordinate}
use Rattle.shades.specs.{Shades}
use Rattle.search_rows.specs.{Rows}

-- k shades, their rows, a colour on the grid and its former shade p
pub record RowsReady (s g : List ℕ) (k : ℕ) (c : Point) (p : ℕ) : Type 0 where
  pub former : p < k
  pub shades : Shades k s
  pub rows : Rows s k g
  pub inside : Within most_coordinate c
