-- The mean square error is a binary64 figure, and none says "no pixels"; beside it stand three channel means.
use Rattle.std.specs.Prelude.{ℕ, cond, false, List, [], ◌∷◌, Option, None, Some, pos, eqb, Float}
use Rattle.std.specs.Float.{fin, binary64}
use Rattle.std.specs.Float.Ieee.{div, of_int}
use Rattle.figures.specs.declared.Means.{Means}

-- every whole number up to this one, 2 ^ 53, is a binary64 number
abbrev pub most_exact : ℕ
most_exact = 9007199254740992

-- error and pixel count as binary64 numbers, then one division
unfoldable pub figure : ℕ → ℕ → Float
figure error pixels = div binary64 (of_int binary64 (pos error)) (of_int binary64 (pos pixels))

-- zero as a binary64 number, without a sign
abbrev pub zero_figure : Float
zero_figure = fin false 0 (pos 0)

-- a channel's mean: the figure, zero for no pixels
abbrev pub channel_mean : ℕ → ℕ → Float
channel_mean error pixels = cond (eqb pixels 0) zero_figure (figure error pixels)

-- the mean: none for no pixels, or the figure
abbrev pub mean_figure : ℕ → ℕ → Option Float
mean_figure error pixels = cond (eqb pixels 0) None (Some (figure error pixels))

-- the three channel means
abbrev pub channel_means : ℕ → ℕ → ℕ → ℕ → Means
channel_means red green blue pixels = record {
  red = channel_mean red pixels;
  green = channel_mean green pixels;
  blue = channel_mean blue pixels;
}

-- ---- what a mean says, case by case

-- how many figures it holds: none where it says "no pixels"
abbrev pub mean_number : Option Float → ℕ
mean_number None = 0
mean_number (Some x) = 1

-- these figures
abbrev pub mean_values : Option Float → List Float
mean_values None = []
mean_values (Some x) = x ∷ []
