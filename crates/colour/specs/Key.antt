-- A colour is three bytes, its levels; its key is one number that tells all three.
use Rattle.std.specs.Prelude.{ℕ, ◌+◌, ◌*◌, ◌/◌, ◌%◌, ◌≤◌}

-- the greatest level of a channel
abbrev pub most_level : ℕ
most_level = 255

-- the greatest key
abbrev pub most_key : ℕ
most_key = 16777215

-- three levels of a colour: none is above the greatest that a byte holds
pub record Levels (red green blue : ℕ) : Type 0 where
  pub red_low : red ≤ most_level
  pub green_low : green ≤ most_level
  pub blue_low : blue ≤ most_level

-- the key of the colour R, G, B: 65536·R + 256·G + B
abbrev pub key_of : ℕ → ℕ → ℕ → ℕ
key_of red green blue = 65536 * red + 256 * green + blue

-- the red level of the colour with this key; a number above the greatest key is read by its last three bytes
abbrev pub red_of : ℕ → ℕ
red_of key = key / 65536 % 256

-- the green level of the colour with this key
abbrev pub green_of : ℕ → ℕ
green_of key = key / 256 % 256

-- the blue level of the colour with this key
abbrev pub blue_of : ℕ → ℕ
blue_of key = key % 256
