-- What a run asks.
use Rattle.std.specs.Prelude.{ℕ, ◌≤◌, ◌<◌, List, get_or, length}
use Rattle.number.specs.{sum}
use Rattle.shades.specs.{most_shades}
use Rattle.table_entries.specs.{Tabled}
use Rattle.method.specs.{most_rounds}

-- a table with a colour, 1 to 64 shades, a limit of 1 to 200, and room
pub record Runnable (used : ℕ) (ks ws : List ℕ) (k limit : ℕ) (members totals : List ℕ) : Type 0 where
  pub table : Tabled used ks ws
  pub pixels : 0 < sum used (λ i. get_or ws i 0)
  pub some : 0 < k
  pub few : k ≤ most_shades
  pub colours : 0 < used
  pub limit_some : 0 < limit
  pub limit_most : limit ≤ most_rounds
  pub members_room : used ≤ length members
  pub totals_room : limit ≤ length totals
