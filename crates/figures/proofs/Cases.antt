-- The mean and a channel's mean by their cases: no pixels, or some.
use Prim.Native.Nat.{ℕ, ◌<◌}
use mathlib.Core.List.{List, [], ◌∷◌}
use mathlib.Core.Path.{◌≡◌, refl, ap}
use native.Mathlib.Omega.{arith}
use borrow.Author.Tests.{ne_eqb}
use lib.Ieee.{Float}
use Rattle.figures.specs.Figures.{figure, channel_mean, mean_figure, channel_means, mean_number, mean_values}
use Rattle.std.specs.Prelude.{Option, None, Some}

-- with pixels the mean is the figure
pub mean-of-some : (e n : ℕ) → 0 < n → mean_figure e n ≡ Some (figure e n)
mean-of-some e n some = rw (ne_eqb n 0 (λ z. omega arith))

-- and so is a channel's
channel-of-some : (e n : ℕ) → 0 < n → channel_mean e n ≡ figure e n
channel-of-some e n some = rw (ne_eqb n 0 (λ z. omega arith))

-- all three of them
pub means-of-some : (r g b n : ℕ) → 0 < n
    → channel_means r g b n ≡ record { red = figure r n; green = figure g n; blue = figure b n }
means-of-some r g b n some = rw (channel-of-some r n some, channel-of-some g n some, channel-of-some b n some)

-- a mean is told by how many figures it holds, and which
pub mean-only : (m k : Option Float) → mean_number m ≡ mean_number k → mean_values m ≡ mean_values k → m ≡ k
mean-only None None e f = refl
mean-only None (Some y) e f = absurd (omega arith)
mean-only (Some x) None e f = absurd (omega arith)
mean-only (Some x) (Some y) e f = ap Some (same_head f)
  where
    head : List Float → Float
    head [] = x
    head (z ∷ zs) = z

    same_head : (x ∷ []) ≡ (y ∷ []) → x ≡ y
    same_head g = ap head g
