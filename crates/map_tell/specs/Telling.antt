-- What is told of a slot: the squared differences of its colour from its shade, and the shade's number, in four cells.
use Rattle.std.specs.Prelude.{ℕ, zero, suc, ◌+◌, ◌*◌, ◌/◌, ◌%◌, ◌≤◌, ◌<◌, List, get_or, length}
use Rattle.number.specs.{sum, sq}
use Rattle.colour.specs.{Point, most_level, most_pixels}
use Rattle.shades.specs.{shade_at, OnGrid}
use Rattle.map_slots.specs.{slot_of}
use Rattle.map_errors.specs.{Errors, found_number}

-- what is told of a point and shade q of s: in cells 0 to 2 the squared differences on the channels, in cell 3 the
-- number
abbrev pub cell_of : Point → List ℕ → ℕ → ℕ → ℕ
cell_of c s q zero = sq c.r (shade_at s q).r
cell_of c s q (suc zero) = sq c.g (shade_at s q).g
cell_of c s q (suc (suc zero)) = sq c.b (shade_at s q).b
cell_of c s q (suc (suc (suc e))) = q

-- cell x of what is told of the points c 0, c 1, .. and the shades with the numbers f 0, f 1, ..: it is one of x / 4
abbrev pub cells_of : (ℕ → Point) → List ℕ → (ℕ → ℕ) → ℕ → ℕ
cells_of c s f x = cell_of (c (x / 4)) s (f (x / 4)) (x % 4)

-- cell e of slot q
abbrev pub told_at : List ℕ → ℕ → ℕ → ℕ
told_at told q e = get_or told (4 * q + e) 0

-- cell e at the slot of pixel i
abbrev pub told_of : List ℕ → List ℕ → ℕ → ℕ → ℕ
told_of which told e i = told_at told (slot_of which i) e

-- the squared differences told of n pixels, added up on each channel
abbrev pub told_errors : List ℕ → List ℕ → ℕ → Errors
told_errors which told n = record {
  red = sum n (told_of which told 0);
  green = sum n (told_of which told 1);
  blue = sum n (told_of which told 2);
}

-- n slots are linked to keys and numbers found, the numbers' shades are in s, and there is room to tell of them
pub record Tellable (keys link best s told : List ℕ) (n : ℕ) : Type 0 where
  pub links : n ≤ length link
  pub keyed : (i : ℕ) → i < n → slot_of link i < length keys
  pub slotted : (i : ℕ) → i < n → slot_of link i < length best
  pub inside : (i : ℕ) → i < n → 3 * found_number link best i + 2 < length s
  pub shades : OnGrid s
  pub room : 4 * n ≤ length told

-- of the slot of each of n pixels is told, with the number of a byte
pub record Told (which told : List ℕ) (n : ℕ) : Type 0 where
  pub slots : n ≤ length which
  pub cells : (i : ℕ) → i < n → 4 * slot_of which i + 3 < length told
  pub byte : (i : ℕ) → i < n → told_of which told 3 i ≤ most_level
  pub few : n ≤ most_pixels
