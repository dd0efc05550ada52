-- The numbers that the pixels of a block get, and what mapping one asks.
use Rattle.std.specs.Prelude.{ℕ, ◌≤◌, ◌<◌, List}
use Rattle.colour.specs.{Point}
use Rattle.shades.specs.{nearest_shade}
use Rattle.map_slots.specs.{slot_of}
use Rattle.map_join.specs.{few_slots}
use Rattle.map_errors.specs.{pixel_at}

-- the number of the nearest of k shades to pixel i; at a tie, the lowest
abbrev pub nearest_to : List ℕ → ℕ → List ℕ → ℕ → ℕ
nearest_to s k strip i = nearest_shade s k (pixel_at strip i)

-- the number of the nearest of k shades to point c i
abbrev pub nearest_at : List ℕ → ℕ → (ℕ → Point) → ℕ → ℕ
nearest_at s k c i = nearest_shade s k (c i)

-- n pixels take at most 256 slots, and none but these
pub record FewTaken (n : ℕ) (which : List ℕ) (m : ℕ) : Type 0 where
  pub at_most : m ≤ few_slots
  pub few : m ≤ n
  pub slotted : (i : ℕ) → i < n → slot_of which i < m
