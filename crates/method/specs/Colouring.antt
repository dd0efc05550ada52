-- Weighted colours: the table by place, and the groups into which a round takes it apart, with the figures that
-- document 01 calls W, S1, S2, S3 and Q.
use Rattle.std.specs.Prelude.{ℕ, ◌+◌, ◌-◌, ◌*◌, ◌≤◌, cond, List, get_or, eqb}
use Rattle.number.specs.{sum, Group, S, Q, rounded_mean, leap}
use Rattle.colour.specs.{Point, Within, distance, most_coordinate, most_pixels}
use Rattle.table_entries.specs.{most_entries}
use Rattle.shades.specs.{colour_at, levels_at}

-- places below n, each with a weight in pixels and the point at which its colour stands
pub record Colours : Type 0 where
  pub n : ℕ
  pub w : ℕ → ℕ
  pub c : ℕ → Point

-- the table in two slices: the first n keys with the first n weights
abbrev pub colours_of : ℕ → List ℕ → List ℕ → Colours
colours_of n ks ws = record { n = n; w = λ i. get_or ws i 0; c = colour_at ks }

-- the same table in whole levels
abbrev pub level_colours : ℕ → List ℕ → List ℕ → Colours
level_colours n ks ws = record { n = n; w = λ i. get_or ws i 0; c = levels_at ks }

-- one coordinate of the colours, f being that of a point
abbrev pub on : (Point → ℕ) → Colours → Group
on f C = record { n = C.n; w = C.w; x = λ i. f (C.c i) }

-- the pixel count W: the sum of the weights
abbrev pub pixels_in : Colours → ℕ
pixels_in C = sum C.n C.w

-- the coordinate sums S1, S2, S3, weighted
abbrev pub sums_of : Colours → Point
sums_of C = record { r = S (on (λ p. p.r) C); g = S (on (λ p. p.g) C); b = S (on (λ p. p.b) C) }

-- the sum Q of squared coordinates, weighted
abbrev pub squares_of : Colours → ℕ
squares_of C = Q (on (λ p. p.r) C) + Q (on (λ p. p.g) C) + Q (on (λ p. p.b) C)

-- the squares of a point's three coordinates, added up
abbrev pub squared : Point → ℕ
squared p = p.r * p.r + p.g * p.g + p.b * p.b

-- the least that the colours could cost with a fractional shade, which is Q - (S1² + S2² + S3²)/W, times W
abbrev pub least_of : Colours → ℕ
least_of C = pixels_in C * squares_of C - squared (sums_of C)

-- what a shade at z costs: the sum over the colours of weight times distance
abbrev pub cost_at : Colours → Point → ℕ
cost_at C z = sum C.n (λ i. C.w i * distance (C.c i) z)

-- the rounded mean, on each of the three coordinates
abbrev pub mean_of : Colours → Point
mean_of C = record {
  r = rounded_mean (pixels_in C) (sums_of C).r;
  g = rounded_mean (pixels_in C) (sums_of C).g;
  b = rounded_mean (pixels_in C) (sums_of C).b;
}

-- Jancey's step from z, on each of the three coordinates
abbrev pub leap_of : Colours → Point → Point
leap_of C z = record {
  r = leap most_coordinate (pixels_in C) (sums_of C).r z.r;
  g = leap most_coordinate (pixels_in C) (sums_of C).g z.g;
  b = leap most_coordinate (pixels_in C) (sums_of C).b z.b;
}

-- the group of shade q, where m says which shade each colour has joined: the others weigh nothing
abbrev pub group_of : Colours → (ℕ → ℕ) → ℕ → Colours
group_of C m q = record { n = C.n; w = λ i. cond (eqb (m i) q) (C.w i) 0; c = C.c }

-- the colours with every coordinate n times as large: a shade at a / n is a shade at a there, at n² times the cost
abbrev pub drawn : ℕ → Colours → Colours
drawn n C = record {
  n = C.n;
  w = C.w;
  c = λ i. record { r = n * (C.c i).r; g = n * (C.c i).g; b = n * (C.c i).b };
}

-- no more pixels and entries than a table holds, and every colour on the grid
pub record Fair (C : Colours) : Type 0 where
  pub pixels : pixels_in C ≤ most_pixels
  pub few : C.n ≤ most_entries
  pub inside : (i : ℕ) → Within most_coordinate (C.c i)
