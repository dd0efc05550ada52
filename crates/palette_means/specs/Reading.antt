-- The levels of a palette, read from the sums of the groups.
use Rattle.std.specs.Prelude.{ℕ, ◌/◌, ◌%◌, cond, List, ltb, eqb, get_or}
use Rattle.number.specs.{rounded_mean}
use Rattle.group_sums.specs.{group_pixels, level_sum}
use Rattle.palette.specs.{level_of}

-- the level of coordinate n, which is one of shade n / 3, where the first f shades are fixed: the rounded mean; fixed,
-- or with no group, its own
abbrev pub level_by_sums : ℕ → List ℕ → List ℕ → ℕ → ℕ
level_by_sums f t s n =
    cond (ltb (n / 3) f) (level_of (get_or s n 0))
    (cond (eqb (group_pixels t (n / 3)) 0) (level_of (get_or s n 0))
    (rounded_mean (group_pixels t (n / 3)) (level_sum t (n % 3) (n / 3))))
