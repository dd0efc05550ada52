-- The starting shades: after those that are given, each next is the colour that is farthest from its nearest shade so
-- far.
use Rattle.std.specs.Prelude.{ℕ, zero, suc, ◌/◌, cond, List, [], ◌∷◌, ◌++◌, ltb, length}
use Rattle.number.specs.{how_many, most}
use Rattle.colour.specs.{Point}
use Rattle.shades.specs.{shade_at, to_shade, nearest_shade}
use Rattle.method.specs.Colouring.{Colours, mean_of}

-- how far a colour is from the nearest of k shades
abbrev pub remote : List ℕ → ℕ → Point → ℕ
remote s k c = to_shade s c (nearest_shade s k c)

-- how many of the n colours c are unlike every one of k shades: at a distance from the nearest that is not 0
abbrev pub unlike : ℕ → (ℕ → Point) → List ℕ → ℕ → ℕ
unlike n c s k = how_many n (λ i. ltb 0 (remote s k (c i)))

-- the three coordinates of a point
abbrev pub flat : Point → List ℕ
flat p = p.r ∷ p.g ∷ p.b ∷ []

-- the shades that are given: how many, and where they stand
pub record Base : Type 0 where
  pub given : ℕ
  pub at : ℕ → Point

-- the shades that lie in a list of coordinates, three by three
abbrev pub listed : List ℕ → Base
listed l = record { given = length l / 3; at = shade_at l }

-- the shade after the k shades of s: a given one below their number; each next is, of the n colours c, the one whose
-- distance to its nearest chosen shade is greatest, and at a tie the first, which has the lowest key
abbrev pub next_shade : Base → ℕ → (ℕ → Point) → ℕ → List ℕ → Point
next_shade B n c k s = cond (ltb k B.given) (B.at k) (c (most n (λ i. remote s k (c i))))

-- the first k shades, three coordinates each
unfoldable pub starts_from : Base → ℕ → (ℕ → Point) → ℕ → List ℕ
starts_from B n c zero = []
starts_from B n c (suc k) = starts_from B n c k ++ flat (next_shade B n c k (starts_from B n c k))

-- shade 0 is the rounded mean of the whole table, weights counted
abbrev pub on_mean : Colours → Base
on_mean C = listed (flat (mean_of C))

-- the starting shades from the table's mean
abbrev pub starts : Colours → ℕ → List ℕ
starts C k = starts_from (on_mean C) C.n C.c k

-- d with l over its front
unfoldable pub over : List ℕ → List ℕ → List ℕ
over [] d = d
over (x ∷ l) [] = []
over (x ∷ l) (y ∷ d) = x ∷ over l d
