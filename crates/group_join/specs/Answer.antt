-- What a grouping leaves and answers: one definition for the plain and the shortened search.
use Rattle.std.specs.Prelude.{ℕ, ◌≡◌, List}
use Rattle.method.specs.{state_of, colours_of, joins, grouped, total_of}
use Rattle.group_sums.specs.{Summed}

-- the grouping in the members, its total, and the groups' sums
pub record Grouped (used : ℕ) (ks ws s : List ℕ) (k : ℕ) (before after : List ℕ) (total : ℕ) (t : List ℕ)
    : Type 0 where
  pub members : after ≡ grouped (colours_of used ks ws) k (state_of s before)
  pub total_is : total ≡ total_of (colours_of used ks ws) k (state_of s before)
  pub sums : Summed (joins (colours_of used ks ws) k s) ks ws used t
