-- Two numbers that tell three sums.
use Rattle.std.specs.Prelude.{ℕ, ◌+◌, ◌*◌, ◌≤◌, Bool, ◌&&◌, List, ◌≡◌, eqb}
use Rattle.number.specs.{sum}
use Rattle.colour.specs.{key_of, red_of, green_of, blue_of, most_sum}
use Rattle.level_sums.specs.{weighed}

-- the red levels of the first n entries of two slices, weights counted
abbrev pub red_sum : ℕ → List ℕ → List ℕ → ℕ
red_sum n ks ws = sum n (weighed red_of ks ws)

-- the green ones
abbrev pub green_sum : ℕ → List ℕ → List ℕ → ℕ
green_sum n ks ws = sum n (weighed green_of ks ws)

-- and the blue ones
abbrev pub blue_sum : ℕ → List ℕ → List ℕ → ℕ
blue_sum n ks ws = sum n (weighed blue_of ks ws)

-- red and blue in the second number
abbrev pub mix_of : ℕ → ℕ → ℕ
mix_of red blue = red + 16777216 * blue

-- the two numbers of three sums, of which the first is made as a key is of its levels; no sum is above that of a full
-- table of level 255
pub record Two (red green blue first second : ℕ) : Type 0 where
  pub first_is : first ≡ key_of red green blue
  pub second_is : second ≡ mix_of red blue
  pub red_low : red ≤ most_sum
  pub green_low : green ≤ most_sum
  pub blue_low : blue ≤ most_sum

-- three sums are three others, one by one
abbrev pub three_same : ℕ → ℕ → ℕ → ℕ → ℕ → ℕ → Bool
three_same red green blue r g b = eqb red r && (eqb green g && eqb blue b)
