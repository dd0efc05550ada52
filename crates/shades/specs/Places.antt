-- Where shades lie: a list of coordinates holds them three by three, from first to last.
use Rattle.std.specs.Prelude.{ℕ, zero, suc, ◌+◌, ◌*◌, ◌/◌, ◌%◌, ◌≤◌, Bool, ◌&&◌, List, get_or, set, length, eqb}
use Rattle.number.specs.{fill}
use Rattle.colour.specs.{Point, most_coordinate, red_of, green_of, blue_of, colour_of}

-- the most shades
abbrev pub most_shades : ℕ
most_shades = 64

-- and their coordinates
abbrev pub most_coordinates : ℕ
most_coordinates = 192

-- shade q of a list of coordinates; past the end stand zeros
abbrev pub shade_at : List ℕ → ℕ → Point
shade_at s q = record { r = get_or s (3 * q) 0; g = get_or s (3 * q + 1) 0; b = get_or s (3 * q + 2) 0 }

-- where the colour with the key at place i stands
abbrev pub colour_at : List ℕ → ℕ → Point
colour_at ks i = colour_of (get_or ks i 0)

-- the same colour in whole levels
abbrev pub levels_at : List ℕ → ℕ → Point
levels_at ks i = record { r = red_of (get_or ks i 0); g = green_of (get_or ks i 0); b = blue_of (get_or ks i 0) }

-- coordinate e of a point: 0 is red, 1 green, 2 blue
abbrev pub axis : ℕ → Point → ℕ
axis zero p = p.r
axis (suc zero) p = p.g
axis (suc (suc e)) p = p.b

-- coordinate n of the shades f 0, f 1, ..: it is one of shade n / 3
abbrev pub coordinate_of : (ℕ → Point) → ℕ → ℕ
coordinate_of f n = axis (n % 3) (f (n / 3))

-- the shades f 0 to f (k - 1) in front of a list of coordinates; the others keep their values
abbrev pub laid : ℕ → (ℕ → Point) → List ℕ → List ℕ
laid k f d = fill (3 * k) (coordinate_of f) d

-- the coordinates with shade q at p
abbrev pub put_shade : List ℕ → ℕ → Point → List ℕ
put_shade s q p = set (set (set s (3 * q) p.r) (3 * q + 1) p.g) (3 * q + 2) p.b

-- two points have the same three coordinates
abbrev pub same_place : Point → Point → Bool
same_place p q = eqb p.r q.r && (eqb p.g q.g && eqb p.b q.b)

-- no coordinate is above 4080
abbrev pub OnGrid : List ℕ → Type 0
OnGrid s = (i : ℕ) → get_or s i 0 ≤ most_coordinate

-- room for k shades, which are at most 64, and every coordinate on the grid
pub record Shades (k : ℕ) (s : List ℕ) : Type 0 where
  pub few : k ≤ most_shades
  pub room : 3 * k ≤ length s
  pub low : OnGrid s
