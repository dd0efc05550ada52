-- The levels of pixels, added up channel by channel.
use Rattle.std.specs.Prelude.{ℕ, ◌+◌, ◌≤◌, List}
use Rattle.number.specs.{sum_of}
use Rattle.colour.specs.{red_of, green_of, blue_of, most_sum}
use Rattle.table_streaks.specs.{streak_sum}
use Rattle.table_channels.specs.declared.ChannelSums.{ChannelSums}

-- the levels of the pixels with these keys
abbrev pub channel_sums : List ℕ → ChannelSums
channel_sums ps = record { red = sum_of red_of ps; green = sum_of green_of ps; blue = sum_of blue_of ps }

-- the levels of the pixels in these streaks
abbrev pub streak_sums : List ℕ → ChannelSums
streak_sums xs = record {
  red = sum_of (streak_sum red_of) xs;
  green = sum_of (streak_sum green_of) xs;
  blue = sum_of (streak_sum blue_of) xs;
}

-- no pixel has any
abbrev pub no_sums : ChannelSums
no_sums = record { red = 0; green = 0; blue = 0 }

-- the sums of two lots of pixels together
abbrev pub together : ChannelSums → ChannelSums → ChannelSums
together a b = record { red = a.red + b.red; green = a.green + b.green; blue = a.blue + b.blue }

-- no sum is above that of a full table of level 255
pub record SumsLow (a : ChannelSums) : Type 0 where
  pub red_low : a.red ≤ most_sum
  pub green_low : a.green ≤ most_sum
  pub blue_low : a.blue ≤ most_sum
