-- Kept distances of entries, lowered to those to a point.
use Rattle.std.specs.Prelude.{ℕ, ◌≤◌, ◌<◌, List, get_or, length}
use Rattle.number.specs.{lesser_of}
use Rattle.colour.specs.{Point, distance}
use Rattle.shades.specs.{colour_at}

-- entry i's distance, kept in d, lowered to that to p
abbrev pub lower_kept : List ℕ → Point → List ℕ → ℕ → ℕ
lower_kept ks p d i = lesser_of (get_or d i 0) (distance (colour_at ks i) p)

-- some entries lie in the keys
pub record Keyed (n : ℕ) (ks : List ℕ) : Type 0 where
  pub some : 0 < n
  pub room : n ≤ length ks
