-- Which shade is nearest to a point, and which distances a search works out.
use Rattle.std.specs.Prelude.{ℕ, ◌+◌, ◌*◌, ◌<◌, Bool, true, not, ◌&&◌, List, ◌⊎◌, ◌≡◌, leb, eqb}
use Rattle.number.specs.{least, how_many}
use Rattle.colour.specs.{Point, distance}
use Rattle.shades.specs.Places.{most_shades, shade_at}

-- the distance from c to shade q
abbrev pub to_shade : List ℕ → Point → ℕ → ℕ
to_shade s c q = distance c (shade_at s q)

-- the nearest of the first k shades; at a tie, the lowest number
abbrev pub nearest_shade : List ℕ → ℕ → Point → ℕ
nearest_shade s k c = least k (to_shade s c)

-- the shortened search from the former shade p, at distance d, works out the distance to another shade q exactly when
-- the distance between p and q is at most 4d
abbrev pub tried : List ℕ → Point → ℕ → ℕ → Bool
tried s c p q = not (eqb q p) && leb (distance (shade_at s p) (shade_at s q)) (4 * to_shade s c p)

-- the shades that it looks at: p itself, and each q that it tries
abbrev pub LookedAt : List ℕ → ℕ → Point → ℕ → ℕ → Type 0
LookedAt s k c p q = (q < k) × ((q ≡ p) ⊎ (tried s c p q ≡ true))

-- the distances that it works out: 1 plus the number of such q
abbrev pub worked : List ℕ → ℕ → Point → ℕ → ℕ
worked s k c p = 1 + how_many k (tried s c p)

-- distance and number in one: the least of these has the least distance and, at a tie, the lowest number
abbrev pub pack : List ℕ → Point → ℕ → ℕ
pack s c q = most_shades * to_shade s c q + q

-- those of the nearest shade
abbrev pub packed_nearest : List ℕ → ℕ → Point → ℕ
packed_nearest s k c = pack s c (nearest_shade s k c)
