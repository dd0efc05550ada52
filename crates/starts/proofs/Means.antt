-- The mean by a table's sums is its rounded mean.
use Prim.Native.Nat.{ℕ, ◌*◌}
use mathlib.Core.List.{List}
use mathlib.Core.Path.{◌≡◌}
use native.Mathlib.Omega.{arith}
use lib.ListN.{get_or}
use Rattle.number.specs.{sum}
use Rattle.number.proofs.Sums.{sum-mul}
use Rattle.colour.specs.{red_of, green_of, blue_of}
use Rattle.level_sums.specs.{weighed}
use Rattle.method.specs.{colours_of, mean_of}
use Rattle.starts.specs.Means.{mean_by_sums}

-- a channel's sum in sixteenths is 16 times that in whole levels
sixteenths : (f : ℕ → ℕ) (n : ℕ) (ks ws : List ℕ)
    → sum n (λ i. get_or ws i 0 * (16 * f (get_or ks i 0))) ≡ 16 * sum n (weighed f ks ws)
sixteenths f n ks ws = sum-mul n 16 _ (weighed f ks ws) (λ i l. omega arith)

-- so the mean by the sums of a table is the rounded mean of its colours
pub mean-by-sums : (n : ℕ) (ks ws : List ℕ) {pixels red green blue : ℕ} → pixels ≡ sum n (λ i. get_or ws i 0)
    → red ≡ sum n (weighed red_of ks ws) → green ≡ sum n (weighed green_of ks ws) → blue ≡ sum n (weighed blue_of ks ws)
    → mean_by_sums pixels red green blue ≡ mean_of (colours_of n ks ws)
mean-by-sums n ks ws p r g b =
    rw (p, r, g, b, ← sixteenths red_of n ks ws, ← sixteenths green_of n ks ws, ← sixteenths blue_of n ks ws)
