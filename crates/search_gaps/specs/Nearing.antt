-- Rows of gaps: how far each shade is from each.
use Rattle.std.specs.Prelude.{ℕ, ◌*◌, ◌≤◌, ◌<◌, ◌≡◌, List, length}
use Rattle.colour.specs.{Point, Within, most_coordinate}
use Rattle.shades.specs.{most_shades, Shades, shade_at, to_shade}
use Rattle.search_rows.specs.{row_of}

-- for each of k shades p, from place 64p on: the distances to the shades, in the order of their numbers
pub record Gaps (s : List ℕ) (k : ℕ) (g : List ℕ) : Type 0 where
  pub room : most_shades * k ≤ length g
  pub gap : (p : ℕ) → p < k → (q : ℕ) → q < k → row_of g p q ≡ to_shade s (shade_at s p) q

-- k shades, their gaps, a colour on the grid and its former shade p
pub record GapsReady (s g : List ℕ) (k : ℕ) (c : Point) (p : ℕ) : Type 0 where
  pub former : p < k
  pub shades : Shades k s
  pub gaps : Gaps s k g
  pub inside : Within most_coordinate c
