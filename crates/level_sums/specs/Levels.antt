-- The levels of a colour, two in one number, so that a table's sums of both are taken at once: each sum is below 2^32,
-- as a table has at most 2^24 pixels.
use Rattle.std.specs.Prelude.{ℕ, ◌+◌, ◌*◌, List, get_or}
use Rattle.colour.specs.{red_of, green_of, blue_of}

-- the red and the green level of a key, in one
abbrev pub red_green : ℕ → ℕ
red_green key = 4294967296 * red_of key + green_of key

-- the blue level of a key and 1, in one
abbrev pub blue_pixels : ℕ → ℕ
blue_pixels key = 4294967296 * blue_of key + 1

-- the weight of entry i times f of its key
abbrev pub weighed : (ℕ → ℕ) → List ℕ → List ℕ → ℕ → ℕ
weighed f ks ws i = get_or ws i 0 * f (get_or ks i 0)
