-- How many entries the groups' sums are over, at the end of a grouping.
use Prim.Native.Nat.{ℕ}
use mathlib.Core.Bool.{Bool, true, false}
use mathlib.Core.Path.{◌≡◌, refl}
use Rattle.group_join.specs.Covering.{covered}

-- once every entry has joined, the sums are over all
pub covered-all : (anew : Bool) (used i : ℕ) → i ≡ used → covered anew used i ≡ used
covered-all true used i e = e
covered-all false used i e = refl
