-- What is shown of searches and of weighted groups: each theorem in full, under a sentence that says it.
-- The proofs stand in Searches, Pigeonholes, Costs, Means, Leaps and Fractions. W, S and Q are a group's pixel count,
-- its weighted sum of coordinates, and that of their squares.
use mathlib.Core.Bool.{Bool}
use mathlib.Core.Path.{◌≡◌}
use Prim.Native.Nat.{ℕ, ◌+◌, ◌-◌, ◌*◌, ◌/◌, ◌≤◌, ◌<◌}
use Rattle.number.specs.Groups.{Group, W, S, Q, cost, rounded_mean, Nearest, scale}
use Rattle.number.specs.Past.{past_mean, leap, NearestPast, Leaps}
use Rattle.number.specs.Search.{Best, least, most, first_that, First}
use Rattle.number.specs.Square.{gap, sq}
use Rattle.number.proofs.Searches as Searches
use Rattle.number.proofs.Firsts as Firsts
use Rattle.number.proofs.Pigeonholes as Pigeonholes
use Rattle.number.proofs.Costs as Costs
use Rattle.number.proofs.Means as Means
use Rattle.number.proofs.Leaps as Leaping
use Rattle.number.proofs.Fractions as Fractions

-- ---- searches

-- Of any set of places there is one first best only, with one value, whatever "better" means.
pub first-best-only : {Beats : ℕ → ℕ → Type 0} {S : ℕ → Type 0} {f : ℕ → ℕ} {m n d e : ℕ}
    → Best Beats S f m d → Best Beats S f n e → (m ≡ n) × (d ≡ e)
first-best-only = Searches.best-only

-- Of the places below n, `least` is the lowest one with the least value.
pub least-is-best : (n : ℕ) (f : ℕ → ℕ) → 0 < n → Best (λ a b. a < b) (λ j. j < n) f (least n f) (f (least n f))
least-is-best n f = Searches.first-is-best Searches.rising f n

-- Of the places below n, `most` is the lowest one with the greatest value.
pub most-is-best : (n : ℕ) (f : ℕ → ℕ) → 0 < n → Best (λ a b. b < a) (λ j. j < n) f (most n f) (f (most n f))
most-is-best n f = Searches.first-is-best Searches.falling f n

-- Whatever place is the lowest one with the least value, it is `least`.
pub best-is-least : (n : ℕ) (f : ℕ → ℕ) {m d : ℕ} → 0 < n → Best (λ a b. a < b) (λ j. j < n) f m d → m ≡ least n f
best-is-least n f = Searches.best-is-first Searches.rising f n

-- Whatever place is the lowest one with the greatest value, it is `most`.
pub best-is-most : (n : ℕ) (f : ℕ → ℕ) {m d : ℕ} → 0 < n → Best (λ a b. b < a) (λ j. j < n) f m d → m ≡ most n f
best-is-most n f = Searches.best-is-first Searches.falling f n

-- Before the first place that passes a test none passes, and it passes itself where it is below the end.
pub first-that-is : (n : ℕ) (b : ℕ → Bool) → First n b (first_that n b)
first-that-is = Firsts.first-that

-- There is one such place only.
pub first-that-only : (n : ℕ) (b : ℕ → Bool) (m : ℕ) → First n b m → m ≡ first_that n b
first-that-only = Firsts.first-that-only

-- ---- values that differ

-- n values below m that all differ are at most m.
pub pigeonhole : (n : ℕ) (f : ℕ → ℕ) → ((i j : ℕ) → i < n → j < n → f i ≡ f j → i ≡ j)
    → (m : ℕ) → ((i : ℕ) → i < n → f i < m) → n ≤ m
pigeonhole = Pigeonholes.pigeonhole

-- ---- what a whole shade costs

-- W times the cost of a shade z is WQ - S², which is the group's own, and the square of how far zW is from S.
pub cost-in-two-parts : (G : Group) (z : ℕ) → W G * cost G z + S G * S G ≡ W G * Q G + sq (S G) (z * W G)
cost-in-two-parts = Costs.cost-parts

-- Cauchy's inequality: S² is at most WQ, so that WQ - S² is a true difference.
pub cauchy : (G : Group) → S G * S G ≤ W G * Q G
cauchy = Costs.cauchy

-- ---- the rounded mean

-- The rounded mean is off the true mean by at most a half.
pub rounded-mean-near : (G : Group) → 0 < W G → 2 * gap (S G) (rounded_mean (W G) (S G) * W G) ≤ W G
rounded-mean-near G = Means.mean-near (W G) (S G)

-- It is the whole number nearest to the true mean, a half going up.
pub rounded-mean-is-nearest : (w s : ℕ) → 0 < w → Nearest w s (rounded_mean w s)
rounded-mean-is-nearest = Means.mean-is-nearest

-- There is one such number only.
pub nearest-only : (w s : ℕ) {x y : ℕ} → Nearest w s x → Nearest w s y → x ≡ y
nearest-only = Means.nearest-only

-- A true mean of m and a half rounds to m + 1.
pub rounded-mean-halves-up : (k m : ℕ) → 0 < k → rounded_mean (2 * k) (2 * k * m + k) ≡ m + 1
rounded-mean-halves-up = Means.mean-half-up

-- No whole shade costs the group less than the rounded mean.
pub rounded-mean-best : (G : Group) → 0 < W G → (z : ℕ) → cost G (rounded_mean (W G) (S G)) ≤ cost G z
rounded-mean-best = Means.mean-best

-- 4W times the cost of the rounded mean is at most 4 (WQ - S²) + W².
pub rounded-mean-bound : (G : Group) → 0 < W G
    → 4 * (W G * cost G (rounded_mean (W G) (S G))) ≤ 4 * (W G * Q G - S G * S G) + W G * W G
rounded-mean-bound = Means.mean-bound

-- The rounded mean of coordinates that are at most `top` is at most `top`.
pub rounded-mean-in-range : (G : Group) → 0 < W G → (top : ℕ) → ((i : ℕ) → i < G.n → G.x i ≤ top)
    → rounded_mean (W G) (S G) ≤ top
rounded-mean-in-range = Means.mean-fits

-- ---- Jancey's step

-- A place that is no farther from the true mean costs the group no more: from the cost in two parts.
pub nearer-no-dearer : (G : Group) → 0 < W G → (y z : ℕ) → gap (S G) (y * W G) ≤ gap (S G) (z * W G)
    → cost G y ≤ cost G z
nearer-no-dearer = Costs.nearer-no-dearer

-- Of the numbers from 0 on `past_mean` is the nearest to z + 9/5 · (s / w - z), a half going up.
pub past-mean-is-nearest : (w s z : ℕ) → 0 < w → NearestPast w s z (past_mean w s z)
past-mean-is-nearest = Leaping.past-is-nearest

-- There is one such number only.
pub past-mean-only : (w s z : ℕ) {x y : ℕ} → NearestPast w s z x → NearestPast w s z y → x ≡ y
past-mean-only = Leaping.past-only

-- It is the whole part of (18s + 5w - 8wz) / (10w), and 0 where that is negative.
pub past-mean-whole-part : (w s z : ℕ) → 0 < w → past_mean w s z ≡ (18 * s + 5 * w - 8 * (w * z)) / (10 * w)
past-mean-whole-part = Leaping.past-whole-part

-- `leap` is Jancey's step.
pub leap-is-step : (top w s z : ℕ) → 0 < w → Leaps top w s z (leap top w s z)
leap-is-step = Leaping.leap-is-step

-- There is one such step only.
pub leap-only : (top w s z : ℕ) {x y : ℕ} → Leaps top w s z x → Leaps top w s z y → x ≡ y
leap-only = Leaping.leap-only

-- The step costs the group no more than staying.
pub leap-no-dearer : (G : Group) → 0 < W G → (top z : ℕ) → cost G (leap top (W G) (S G) z) ≤ cost G z
leap-no-dearer = Leaping.leap-no-dearer

-- A step that leaves a place where it is has left it on the rounded mean.
pub leap-rests : (top w s z : ℕ) → leap top w s z ≡ z → z ≡ rounded_mean w s
leap-rests = Leaping.leap-rests

-- Among coordinates that are at most `top`, it goes to no place above `top`.
pub leap-in-range : (G : Group) → 0 < W G → (top z : ℕ) → ((i : ℕ) → i < G.n → G.x i ≤ top)
    → leap top (W G) (S G) z ≤ top
leap-in-range G pos top z h = Leaping.leap-fits top (W G) (S G) z (Means.mean-fits G pos top h)

-- ---- fractional shades

-- No shade a / k, whole or not, costs less than (WQ - S²) / W; both sides stand here times W and k².
pub fraction-least : (G : Group) (k a : ℕ) → k * k * (W G * Q G - S G * S G) ≤ W G * cost (scale k G) a
fraction-least = Fractions.fraction-least

-- The true mean S / W costs just (WQ - S²) / W; both sides stand here times W and W².
pub fraction-attained : (G : Group) → W G * cost (scale (W G) G) (S G) ≡ W G * W G * (W G * Q G - S G * S G)
fraction-attained = Fractions.fraction-attained
