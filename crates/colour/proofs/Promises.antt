-- What is shown of colours and points, for whoever cites it. Each body names the proof.
use Prim.Native.Nat.{ℕ, ◌+◌, ◌*◌, ◌≤◌, ◌<◌}
use mathlib.Core.Path.{◌≡◌}
use Rattle.colour.specs.declared.Point.{Point}
use Rattle.colour.specs.Key.{most_key, Levels, key_of, red_of, green_of, blue_of}
use Rattle.colour.specs.Points.{most_coordinate, most_distance, Within, colour_of, distance}
use Rattle.colour.proofs.Keys as keys
use Rattle.colour.proofs.Distances as distances

-- ---- keys

-- Three levels make a key that is at most 16,777,215.
pub key-most : (r g b : ℕ) → Levels r g b → key_of r g b ≤ most_key
key-most = keys.key-most

-- The levels read from any number are levels of a byte.
pub levels-most : (key : ℕ) → Levels (red_of key) (green_of key) (blue_of key)
levels-most = keys.levels-most

-- The levels read from the key of three levels are those three.
pub levels-of-key :
    (r g b : ℕ) → Levels r g b
    → (red_of (key_of r g b) ≡ r) × (green_of (key_of r g b) ≡ g) × (blue_of (key_of r g b) ≡ b)
levels-of-key = keys.levels-of-key

-- A key is the key of the levels read from it.
pub key-of-levels : (key : ℕ) → key ≤ most_key → key_of (red_of key) (green_of key) (blue_of key) ≡ key
key-of-levels = keys.key-of-levels

-- Two colours of one key are one colour.
pub key-only :
    (r g b r' g' b' : ℕ) → Levels r g b → Levels r' g' b' → key_of r g b ≡ key_of r' g' b'
    → (r ≡ r') × (g ≡ g') × (b ≡ b')
key-only = keys.key-only

-- ---- distances

-- The distance is the same either way round.
pub distance-sym : (p q : Point) → distance p q ≡ distance q p
distance-sym = distances.distance-sym

-- A point is at distance 0 from itself.
pub distance_self : (p : Point) → distance p p ≡ 0
distance_self = distances.distance_self

-- Points at distance 0 have the same three coordinates.
pub distance-zero : (p q : Point) → distance p q ≡ 0 → (p.r ≡ q.r) × (p.g ≡ q.g) × (p.b ≡ q.b)
distance-zero = distances.distance-zero

-- Points with no coordinate above m are at most 3m² apart.
pub distance-within : (m : ℕ) (p q : Point) → Within m p → Within m q → distance p q ≤ 3 * (m * m)
distance-within = distances.distance-within

-- Points with no coordinate above 4080 are at most 49,939,200 apart.
pub distance_most :
    (p q : Point) → Within most_coordinate p → Within most_coordinate q → distance p q ≤ most_distance
distance_most = distances.distance_most

-- A distance is at most twice the two distances by way of a third point.
pub distance-halves : (p q x : Point) → distance p q ≤ 2 * distance x p + 2 * distance x q
distance-halves = distances.distance-halves

-- A shade q at more than four times the distance of a colour c from its shade p is farther from c than p is.
pub farther : (p q c : Point) → 4 * distance c p < distance p q → distance c p < distance c q
farther = distances.farther

-- ---- where colours stand

-- A colour's coordinates are at most 4080.
pub colour-within : (key : ℕ) → Within most_coordinate (colour_of key)
colour-within = distances.colour-within

-- Two keys whose colours are at distance 0 are one key.
pub colour-only : (k l : ℕ) → k ≤ most_key → l ≤ most_key → distance (colour_of k) (colour_of l) ≡ 0 → k ≡ l
colour-only = distances.colour-only
