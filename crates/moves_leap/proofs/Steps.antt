-- How far past the mean Jancey's step leads.
use Prim.Native.Nat.{ℕ, ◌-◌, ◌*◌, ◌≤◌, ◌<◌}
use native.Mathlib.Omega.{arith}
use Rattle.number.specs.{past_mean}
use Rattle.number.proofs.Means.{mean-below}
use Rattle.colour.specs.{most_coordinate}

-- nine fifths of the way lead to no more than nine fifths of the greatest coordinate
pub past-at-most : (w s z : ℕ) → 0 < w → s ≤ w * most_coordinate → past_mean w s z ≤ 7344
past-at-most w s z pos low = mean-below (5 * w) (9 * s - 4 * (w * z)) (omega arith) 7344 (omega arith)
