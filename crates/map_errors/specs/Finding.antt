-- What a block's search found: a packed number for each slot, and so a number for each pixel.
use Rattle.std.specs.Prelude.{ℕ, ◌+◌, ◌*◌, ◌%◌, ◌≤◌, ◌<◌, List, ◌≡◌, get_or, length}
use Rattle.colour.specs.{most_pixels}
use Rattle.shades.specs.{most_shades, OnGrid}
use Rattle.map_slots.specs.{slot_of}

-- the number in the packed number at slot i
abbrev pub number_in : List ℕ → ℕ → ℕ
number_in best i = get_or best i 0 % most_shades

-- the number found for pixel i: that at its slot
abbrev pub found_number : List ℕ → List ℕ → ℕ → ℕ
found_number which best i = number_in best (slot_of which i)

-- a strip of n pixels, and for each of them a number is found whose shade is in s
pub record Found (strip which s best : List ℕ) (n : ℕ) : Type 0 where
  pub pixels : length strip ≡ 3 * n
  pub room : n ≤ length which
  pub slotted : (i : ℕ) → i < n → slot_of which i < length best
  pub inside : (i : ℕ) → i < n → 3 * found_number which best i + 2 < length s
  pub shades : OnGrid s
  pub few : n ≤ most_pixels
