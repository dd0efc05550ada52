-- The starting shades by kept distances: each entry's distance to its nearest start so far is lowered start by start.
use Rattle.std.specs.Prelude.{ℕ, List}
use Rattle.number.specs.{lowest}
use Rattle.colour.specs.{Point, distance}
use Rattle.shades.specs.{colour_at}
use Rattle.method.specs.{Base, next_shade, starts_from}

-- start number k, from the given ones
abbrev pub shade_from : Base → ℕ → (ℕ → Point) → ℕ → Point
shade_from B n c k = next_shade B n c k (starts_from B n c k)

-- what is kept before the first start: above every distance
abbrev pub most_kept : ℕ
most_kept = 4294967295

-- entry i's distance to the nearest of the first k starts, kept and lowered shade by shade
abbrev pub kept : List ℕ → ℕ → Base → ℕ → ℕ → ℕ
kept ks n B k i = lowest most_kept k (λ q. distance (colour_at ks i) (shade_from B n (colour_at ks) q))
