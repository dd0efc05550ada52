-- The sums of the groups, read: two stand in one number.
use Rattle.std.specs.Prelude.{ℕ, zero, suc, ◌+◌, ◌*◌, ◌/◌, ◌%◌, ◌≤◌, ◌<◌, List, get_or}
use Rattle.colour.specs.{most_level, most_pixels}
use Rattle.shades.specs.{most_shades}

-- the pixel count of group q
abbrev pub group_pixels : List ℕ → ℕ → ℕ
group_pixels t q = get_or t (2 * q + 1) 0 % 4294967296

-- its sum of channel e, in whole levels: 0 is red, 1 green, 2 blue
abbrev pub level_sum : List ℕ → ℕ → ℕ → ℕ
level_sum t zero q = get_or t (2 * q) 0 / 4294967296
level_sum t (suc zero) q = get_or t (2 * q) 0 % 4294967296
level_sum t (suc (suc e)) q = get_or t (2 * q + 1) 0 / 4294967296

-- no group has more pixels than a table, nor more than 255 for each of them in a sum of levels
pub record Measured (t : List ℕ) : Type 0 where
  pub few : (q : ℕ) → q < most_shades → group_pixels t q ≤ most_pixels
  pub low : (e q : ℕ) → q < most_shades → level_sum t e q ≤ most_level * group_pixels t q
