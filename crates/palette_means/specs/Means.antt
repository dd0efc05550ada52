-- The palette of a table's groups: each entry is the mean of its group, rounded once.
use Rattle.std.specs.Prelude.{ℕ, ◌/◌, cond, List, ltb, length}
use Rattle.colour.specs.{Point}
use Rattle.shades.specs.{shade_at, laid}
use Rattle.method.specs.{State, level_colours, group_at, to_mean}
use Rattle.palette.specs.{level_of}

-- shade q in whole levels, each by the rule of a palette from shades
abbrev pub shade_levels : List ℕ → ℕ → Point
shade_levels s q = record {
  r = level_of (shade_at s q).r;
  g = level_of (shade_at s q).g;
  b = level_of (shade_at s q).b;
}

-- the palette entry of shade q, where the first f are fixed: on each channel the rounded mean, in whole levels, of the
-- group that the members tell; a fixed shade and a shade with no group keep their own levels
abbrev pub group_entry : ℕ → ℕ → List ℕ → List ℕ → State → ℕ → Point
group_entry f used ks ws a q =
    cond (ltb q f) (shade_levels a.coordinates q)
    (to_mean q (group_at (level_colours used ks ws) a q) (shade_levels a.coordinates q))

-- the lent bytes with the entries of all shades in front; those past the last shade's stay
abbrev pub group_palette : ℕ → ℕ → List ℕ → List ℕ → State → List ℕ → List ℕ
group_palette f used ks ws a palette = laid (length a.coordinates / 3) (group_entry f used ks ws a) palette
