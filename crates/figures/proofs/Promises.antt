-- What is shown of the figures, for whoever cites it. Each body names the proof.
use Prim.Native.Nat.{ℕ, ◌^◌, ◌≤◌, ◌<◌}
use mathlib.Core.Bool.{false}
use mathlib.Core.List.{[], ◌∷◌}
use mathlib.Core.Path.{◌≡◌, refl, ap}
use lib.Ieee.{Float, binary64, round}
use lib.Ieee.Exact.{HasValue}
use Rattle.figures.specs.Figures.{
  most_exact,
  figure,
  zero_figure,
  mean_figure,
  channel_means,
  mean_number,
  mean_values,
}
use Rattle.figures.specs.Nearness.{NearestTo}
use Rattle.std.specs.Prelude.{Option}
use Rattle.figures.proofs.Quotients as quotients
use Rattle.figures.proofs.Nearest as nearest
use Rattle.figures.proofs.Cases as cases

-- ---- one figure

-- Both conversions lose nothing: the figure is error / pixels rounded once.
pub figure-rounds : (e n : ℕ) → e ≤ most_exact → 0 < n → n ≤ most_exact → figure e n ≡ round binary64 false e n
figure-rounds = quotients.figure-rounds

-- The figure is the binary64 number nearest to error / pixels.
pub figure-nearest : (e n : ℕ) → e ≤ most_exact → 0 < n → n ≤ most_exact → NearestTo (figure e n) e n
figure-nearest = nearest.figure-nearest

-- With a pixel count that is a power of two the figure is exact: it is finite, not negative, and of the value
-- error / pixels.
pub figure-exact : (e k : ℕ) → e < most_exact → k ≤ 53 → HasValue (figure e (2 ^ k)) false e (2 ^ k)
figure-exact = quotients.figure-exact

-- ---- the mean

-- With no pixels the mean says "no pixels": it holds no figure.
pub mean-of-none : (e : ℕ) → (mean_number (mean_figure e 0) ≡ 0) × (mean_values (mean_figure e 0) ≡ [])
mean-of-none e = (refl, refl)

-- With pixels it holds one, the figure of error and pixels.
pub mean-of-some : (e n : ℕ) → 0 < n
    → (mean_number (mean_figure e n) ≡ 1) × (mean_values (mean_figure e n) ≡ figure e n ∷ [])
mean-of-some e n some = (ap mean_number (cases.mean-of-some e n some), ap mean_values (cases.mean-of-some e n some))

-- A mean is told by what it says.
pub mean-only : (m k : Option Float) → mean_number m ≡ mean_number k → mean_values m ≡ mean_values k → m ≡ k
mean-only = cases.mean-only

-- ---- the channel means

-- With no pixels the three means are zeros.
pub means-of-none : (r g b : ℕ)
    → channel_means r g b 0 ≡ record { red = zero_figure; green = zero_figure; blue = zero_figure }
means-of-none r g b = refl

-- With pixels each is made as the figure is.
pub means-of-some : (r g b n : ℕ) → 0 < n
    → channel_means r g b n ≡ record { red = figure r n; green = figure g n; blue = figure b n }
means-of-some = cases.means-of-some
