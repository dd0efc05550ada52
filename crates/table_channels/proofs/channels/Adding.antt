-- The loop over streaks: what holds at each turn.
use Prim.Native.Nat.{ℕ, ◌+◌, ◌*◌, ◌≤◌, ◌<◌}
use mathlib.Core.List.{List}
use mathlib.Core.Path.{◌≡◌}
use native.Mathlib.Nat.{mul-le-mul_left}
use native.Mathlib.Omega.{arith}
use lib.ListN.{length, get_or, take}
use lib.Seq.{length-take-le}
use Rattle.number.specs.{sum_of}
use Rattle.number.proofs.ListSums.{sum_of-more, sum_of-bound}
use Rattle.colour.specs.{red_of, green_of, blue_of, most_level}
use Rattle.table_streaks.specs.{most_streaks, streak_key, streak_pixels, streak_sum}

-- the most that a streak adds to a sum: 256 pixels of level 255
abbrev pub most_streak : ℕ
most_streak = 65280

-- a streak adds no more
pub streak-low : (f : ℕ → ℕ) → ((k : ℕ) → f k ≤ most_level) → (x : ℕ) → streak_sum f x ≤ most_streak
streak-low f low x =
    let p : streak_pixels x ≤ 256 = omega arith in
    omega (arith, mul-le-mul_left (streak_pixels x) (low (streak_key x)))

-- the first i streaks add no more than that for each
sum_low : (f : ℕ → ℕ) → ((k : ℕ) → f k ≤ most_level) → (L : List ℕ) (i : ℕ) → i ≤ length L
    → sum_of (streak_sum f) (take i L) ≤ i * most_streak
sum_low f low L i l =
    omega (arith, sum_of-bound most_streak (streak_sum f) (take i L) (streak-low f low), length-take-le i L l)

-- the streaks before place i are added up
pub record Adding (L : List ℕ) (red green blue i : ℕ) : Type 0 where
  pub reds : red ≡ sum_of (streak_sum red_of) (take i L)
  pub greens : green ≡ sum_of (streak_sum green_of) (take i L)
  pub blues : blue ≡ sum_of (streak_sum blue_of) (take i L)

module _ {L : List ℕ} {red green blue i : ℕ} (a : Adding L red green blue i) where
  -- no sum is above 65,280 for each streak
  pub adding-low : i ≤ length L → (red ≤ i * most_streak) × (green ≤ i * most_streak) × (blue ≤ i * most_streak)
  adding-low l = (
    rw a.reds (sum_low red_of (λ k. omega arith) L i l),
    rw a.greens (sum_low green_of (λ k. omega arith) L i l),
    rw a.blues (sum_low blue_of (λ k. omega arith) L i l),
  )

  -- 32 bits hold each sum and what a streak adds to it
  pub adding-fits : i < length L → length L ≤ most_streaks → (pixels level : ℕ) → pixels ≤ 256 → level ≤ most_level
      → (red + pixels * level < 4294967296) × (green + pixels * level < 4294967296)
      × (blue + pixels * level < 4294967296)
  adding-fits l few pixels level p low =
      let m = adding-low (omega arith) in
      let t = mul-le-mul_left pixels low in
      (omega arith, omega arith, omega arith)

  -- the streak of place i is added, once for each of its pixels
  pub adding-step : i < length L → (pixels r g b : ℕ) → pixels ≡ streak_pixels (get_or L i 0)
      → r ≡ red_of (streak_key (get_or L i 0)) → g ≡ green_of (streak_key (get_or L i 0))
      → b ≡ blue_of (streak_key (get_or L i 0))
      → Adding L (red + pixels * r) (green + pixels * g) (blue + pixels * b) (i + 1)
  adding-step l pixels r g b en er eg eb = record {
    reds = rw (en, er) (omega (arith, a.reds, sum_of-more (streak_sum red_of) i L l));
    greens = rw (en, eg) (omega (arith, a.greens, sum_of-more (streak_sum green_of) i L l));
    blues = rw (en, eb) (omega (arith, a.blues, sum_of-more (streak_sum blue_of) i L l));
  }
