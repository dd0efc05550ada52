-- Streaks of equal pixels as numbers: 256 * key + (pixels - 1), with 1 to 256 pixels.
use Rattle.std.specs.Prelude.{ℕ, ◌+◌, ◌*◌, ◌/◌, ◌%◌, Bool, cond, ◌&&◌, ltb, eqb}
use Rattle.colour.specs.{most_key}

-- the key of the streak's colour
abbrev pub streak_key : ℕ → ℕ
streak_key x = x / 256 % (most_key + 1)

-- the pixels of the streak
abbrev pub streak_pixels : ℕ → ℕ
streak_pixels x = x % 256 + 1

-- f of the streak's key, once for each of its pixels
abbrev pub streak_sum : (ℕ → ℕ) → ℕ → ℕ
streak_sum f x = streak_pixels x * f (streak_key x)

-- the pixels of colour c in the streak
abbrev pub streak_count : ℕ → ℕ → ℕ
streak_count c = streak_sum (λ (k : ℕ). cond (eqb k c) 1 0)

-- whether one pixel more of colour k goes into the streak: it is of that colour and has fewer than 256
abbrev pub joins_streak : ℕ → ℕ → Bool
joins_streak x k = eqb (streak_key x) k && ltb (x % 256) 255

-- the longest list of streaks that is sorted
abbrev pub most_streaks : ℕ
most_streaks = 65536
