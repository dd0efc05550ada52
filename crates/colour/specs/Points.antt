-- Points of the grid: three coordinates in sixteenths of a level. A shade is one, and a colour stands at one.
use Rattle.std.specs.Prelude.{ℕ, ◌+◌, ◌*◌, ◌≤◌}
use Rattle.number.specs.{sq}
use Rattle.colour.specs.Key.{key_of, red_of, green_of, blue_of}
use Rattle.colour.specs.declared.Point.{Point}

-- the greatest coordinate, that of the greatest level
abbrev pub most_coordinate : ℕ
most_coordinate = 4080

-- the greatest distance of two points whose coordinates are at most the greatest
abbrev pub most_distance : ℕ
most_distance = 49939200

-- the most pixels that a table holds, and so the most of a group
abbrev pub most_pixels : ℕ
most_pixels = 16777216

-- the greatest sum of a channel: level 255 for each of the most pixels
abbrev pub most_sum : ℕ
most_sum = 4278190080

-- no coordinate of the point is above m
pub record Within (m : ℕ) (p : Point) : Type 0 where
  pub r_low : p.r ≤ m
  pub g_low : p.g ≤ m
  pub b_low : p.b ≤ m

-- a level as a coordinate: in sixteenths
abbrev pub sixteenth : ℕ → ℕ
sixteenth level = 16 * level

-- the point at which the colour with this key stands: (16r, 16g, 16b)
abbrev pub colour_of : ℕ → Point
colour_of key = record { r = sixteenth (red_of key); g = sixteenth (green_of key); b = sixteenth (blue_of key) }

-- the key of a colour in whole levels
abbrev pub point_key : Point → ℕ
point_key c = key_of c.r c.g c.b

-- the distance of two points: the sum of three squared differences
unfoldable pub distance : Point → Point → ℕ
distance p q = sq p.r q.r + sq p.g q.g + sq p.b q.b
