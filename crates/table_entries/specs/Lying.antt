-- What a table in two slices gives to whoever reads it.
use Rattle.std.specs.Prelude.{ℕ, ◌≤◌, List, get_or, length}
use Rattle.number.specs.{sum}
use Rattle.colour.specs.{most_pixels}
use Rattle.table_entries.specs.Adding.{most_entries}

-- n entries lie in two slices, at most 1,048,576 of them with at most 16,777,216 pixels
pub record Tabled (n : ℕ) (ks ws : List ℕ) : Type 0 where
  pub keys_room : n ≤ length ks
  pub weights_room : n ≤ length ws
  pub few : n ≤ most_entries
  pub pixels : sum n (λ i. get_or ws i 0) ≤ most_pixels
