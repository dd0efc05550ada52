-- Where the shades go, read from the sums that a grouping leaves, by a rule on one coordinate.
use Rattle.std.specs.Prelude.{ℕ, ◌+◌, ◌*◌, ◌/◌, ◌%◌, Bool, ◌&&◌, List, eqb, get_or, set}
use Rattle.colour.specs.{sixteenth}
use Rattle.method.specs.{Move}
use Rattle.group_sums.specs.{group_pixels, level_sum}

-- where coordinate n goes, which is one of shade n / 3
abbrev pub goes : Move → List ℕ → List ℕ → ℕ → ℕ
goes move t s n =
    move (n / 3) (group_pixels t (n / 3)) (sixteenth (level_sum t (n % 3) (n / 3))) (get_or s n 0)

-- do the three coordinates of shade q stay?
abbrev pub stays : Move → List ℕ → List ℕ → ℕ → Bool
stays move t s q =
    eqb (goes move t s (3 * q)) (get_or s (3 * q) 0)
    && (eqb (goes move t s (3 * q + 1)) (get_or s (3 * q + 1) 0)
    && eqb (goes move t s (3 * q + 2)) (get_or s (3 * q + 2) 0))

-- the shades s with shade q moved: its three coordinates where they go
abbrev pub with_moved : Move → List ℕ → List ℕ → ℕ → List ℕ
with_moved move t s q =
    set (set (set s (3 * q) (goes move t s (3 * q))) (3 * q + 1) (goes move t s (3 * q + 1))) (3 * q + 2)
    (goes move t s (3 * q + 2))
