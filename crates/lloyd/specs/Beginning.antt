-- The starting shades of a run, in the scope's words: by keys.
use Rattle.std.specs.Prelude.{ℕ, ◌≤◌, ◌<◌, List, ◌≡◌, get_or}
use Rattle.colour.specs.{Point}
use Rattle.shades.specs.{colour_at}
use Rattle.method.specs.{remote}

-- p is the table colour whose distance to its nearest of the q shades of s is greatest; at a tie, the lowest key
pub record FarthestColour (used : ℕ) (ks s : List ℕ) (q : ℕ) (p : Point) : Type 0 where
  pub entry : ℕ
  pub within : entry < used
  pub is : p ≡ colour_at ks entry
  pub farthest : (j : ℕ) → j < used → remote s q (colour_at ks j) ≤ remote s q p
  pub lowest_key : (j : ℕ) → j < used → get_or ks j 0 < get_or ks entry 0
      → remote s q (colour_at ks j) < remote s q p
