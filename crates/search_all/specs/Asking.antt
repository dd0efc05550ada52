-- What the plain search asks, and what one look of it leaves.
use Rattle.std.specs.Prelude.{ℕ, ◌+◌, ◌*◌, ◌≤◌, ◌<◌, List, get_or, length}
use Rattle.number.specs.{lesser_of}
use Rattle.colour.specs.{Point, Within, distance, most_coordinate, red_of, green_of, blue_of}
use Rattle.shades.specs.{most_shades}

-- the levels of the colour with the key at place i, each times n
abbrev pub scaled_at : ℕ → List ℕ → ℕ → Point
scaled_at n ks i = record {
  r = n * red_of (get_or ks i 0);
  g = n * green_of (get_or ks i 0);
  b = n * blue_of (get_or ks i 0);
}

-- point i of those whose coordinates are laid out in three lists
abbrev pub point_at : List ℕ → List ℕ → List ℕ → ℕ → Point
point_at reds greens blues i = record { r = get_or reds i 0; g = get_or greens i 0; b = get_or blues i 0 }

-- three lists have room for the coordinates of n points
pub record RoomFor (n : ℕ) (reds greens blues : List ℕ) : Type 0 where
  pub red : n ≤ length reds
  pub green : n ≤ length greens
  pub blue : n ≤ length blues

-- the points c 0 to c (n - 1) are on the grid
abbrev pub PointsOnGrid : ℕ → (ℕ → Point) → Type 0
PointsOnGrid n c = (i : ℕ) → i < n → Within most_coordinate (c i)

-- the least packed number of point c i so far, given in d, with shade q, which stands at p, looked at
abbrev pub looked_at : (ℕ → Point) → Point → ℕ → List ℕ → ℕ → ℕ
looked_at c p q d i = lesser_of (get_or d i 0) (most_shades * distance (c i) p + q)
