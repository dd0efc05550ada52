-- A weighted group on one coordinate, with the figures that document 01 calls W, S and Q, and what a shade costs it.
use Rattle.std.specs.Prelude.{ℕ, ◌+◌, ◌*◌, ◌/◌, ◌≤◌, ◌<◌}
use Rattle.number.specs.Square.{gap, sq}
use Rattle.number.specs.Sum.{sum}

-- places below n, each with a weight and a coordinate; what is not in the group has weight 0
pub record Group : Type 0 where
  pub n : ℕ
  pub w : ℕ → ℕ
  pub x : ℕ → ℕ

-- the pixel count: the sum of the weights
abbrev pub W : Group → ℕ
W G = sum G.n G.w

-- the weighted sum of the coordinates
abbrev pub S : Group → ℕ
S G = sum G.n (λ i. G.w i * G.x i)

-- the weighted sum of the squared coordinates
abbrev pub Q : Group → ℕ
Q G = sum G.n (λ i. G.w i * (G.x i * G.x i))

-- the weighted sum of the squared differences from z
abbrev pub cost : Group → ℕ → ℕ
cost G z = sum G.n (λ i. G.w i * sq (G.x i) z)

-- the rounded mean of a group of pixel count W and coordinate sum S: the whole part of (2S + W) / (2W), so halves go up
abbrev pub rounded_mean : ℕ → ℕ → ℕ
rounded_mean pixels coords = (2 * coords + pixels) / (2 * pixels)

-- x is the whole number nearest to s / w, a half going up: none is nearer, and each above it is farther; both sides
-- stand here times w
pub record Nearest (w s x : ℕ) : Type 0 where
  pub no_nearer : (z : ℕ) → gap s (x * w) ≤ gap s (z * w)
  pub halves_up : (z : ℕ) → x < z → gap s (x * w) < gap s (z * w)

-- the group with every coordinate k times as large: a shade at a / k on the group is a shade at a on this one
abbrev pub scale : ℕ → Group → Group
scale k G = record { n = G.n; w = G.w; x = λ i. k * G.x i }
