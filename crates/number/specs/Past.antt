-- Jancey's step on one coordinate: nine fifths of the way from where a shade stands to the mean of its group. As
-- numbers, and as what is asked of a number that is the step.
use Rattle.std.specs.Prelude.{ℕ, ◌+◌, ◌-◌, ◌*◌, ◌≤◌, ◌<◌, cond, ◌≡◌, ltb}
use Rattle.number.specs.Groups.{rounded_mean, Nearest}
use Rattle.number.specs.Search.{lesser_of}
use Rattle.number.specs.Square.{gap}

-- z + 9/5 · (S / W - z), which is (9S - 4Wz) / (5W), to the nearest whole number, halves up; where that lies below 0
-- the difference is 0, and so is the number
abbrev pub past_mean : ℕ → ℕ → ℕ → ℕ
past_mean pixels coords z = rounded_mean (5 * pixels) (9 * coords - 4 * (pixels * z))

-- that, held to `top`
abbrev pub held_past : ℕ → ℕ → ℕ → ℕ → ℕ
held_past top pixels coords z = lesser_of top (past_mean pixels coords z)

-- the step from z: past the mean, where that ends nearer to the exact mean than z is; else the rounded mean
abbrev pub leap : ℕ → ℕ → ℕ → ℕ → ℕ
leap top pixels coords z =
    cond (ltb (gap coords (held_past top pixels coords z * pixels)) (gap coords (z * pixels)))
    (held_past top pixels coords z) (rounded_mean pixels coords)

-- x is, of the whole numbers from 0 on, the one nearest to z + 9/5 · (s / w - z), a half going up: none is nearer, and
-- each above it is farther. Both sides stand here times 5w and with 4wz added, 9s against 5wx + 4wz
pub record NearestPast (w s z x : ℕ) : Type 0 where
  pub no_nearer : (y : ℕ) → gap (9 * s) (x * (5 * w) + 4 * (w * z)) ≤ gap (9 * s) (y * (5 * w) + 4 * (w * z))
  pub halves_up : (y : ℕ) → x < y → gap (9 * s) (x * (5 * w) + 4 * (w * z)) < gap (9 * s) (y * (5 * w) + 4 * (w * z))

-- x is the step from z to the mean s / w and past it: `far` is nine fifths of the way, `held` is that or `top` where it
-- is above, and x is `held` where that is nearer to the exact mean than z; where it is as far or farther, x is the
-- whole number nearest to the mean, a half going up. How far a place is from the mean stands here times w
pub record Leaps (top w s z x : ℕ) : Type 0 where
  pub far : ℕ
  pub far_is : NearestPast w s z far
  pub held : ℕ
  pub held_is : held ≡ lesser_of top far
  pub taken : gap s (held * w) < gap s (z * w) → x ≡ held
  pub left : gap s (z * w) ≤ gap s (held * w) → Nearest w s x
