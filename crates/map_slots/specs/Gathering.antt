-- A block of pixels, and what gathering them leaves: pixels that follow one another and are equal share a slot. Where
-- these slots are few, they are joined: those with one key are gathered once more, wherever they stand.
use Rattle.std.specs.Prelude.{ℕ, ◌≤◌, ◌<◌, List, ◌≡◌, get_or}
use Rattle.colour.specs.{Point, point_key}
use Rattle.shades.specs.{shade_at, levels_at}

-- the most pixels of a block, and so the most slots
abbrev pub most_slots : ℕ
most_slots = 1024

-- the key of pixel i of a strip, which has three bytes a pixel
abbrev pub pixel_key : List ℕ → ℕ → ℕ
pixel_key strip i = point_key (shade_at strip i)

-- the key at slot q
abbrev pub slot_key : List ℕ → ℕ → ℕ
slot_key keys q = get_or keys q 0

-- the slot of pixel i
abbrev pub slot_of : List ℕ → ℕ → ℕ
slot_of which i = get_or which i 0

-- the colour at the slot of pixel i, in whole levels
abbrev pub levels_of : List ℕ → List ℕ → ℕ → Point
levels_of keys which i = levels_at keys (slot_of which i)

-- the keys f 0 to f (n - 1) are gathered in m slots, at most one for each: the key at the slot of each is its own
pub record Gathered (f : ℕ → ℕ) (n : ℕ) (keys which : List ℕ) (m : ℕ) : Type 0 where
  pub few : m ≤ n
  pub slotted : (i : ℕ) → i < n → slot_of which i < m
  pub is : (i : ℕ) → i < n → slot_key keys (slot_of which i) ≡ f i

-- where m slots are taken, a key takes slot h: one of them, if it stands there, or the next
pub data Takes (keys : List ℕ) (m key h : ℕ) : Type 0 where
  there : h < m → slot_key keys h ≡ key → Takes keys m key h
  next : h ≡ m → Takes keys m key h
