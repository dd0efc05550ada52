-- The groups' sums at the end of a shortened grouping.
use Prim.Native.Nat.{ℕ, ◌≤◌}
use mathlib.Core.List.{List}
use mathlib.Core.Bool.{Bool}
use native.Mathlib.Omega.{arith}
use Rattle.number.proofs.Fills.{fill-at}
use Rattle.method.specs.{colours_of, joins}
use Rattle.group_sums.specs.{Summed, member_at}
use Rattle.group_sums.proofs.Moving.{summed_same}
use Rattle.group_join.specs.{covered}
use Rattle.group_join.proofs.Covering.{covered-all}
use Rattle.group_join.proofs.Turns.{Turned}

-- once every entry has joined, the sums of the groups that the members tell are those of the nearest shades
pub joined-sums : {used : ℕ} {ks ws s : List ℕ} {k : ℕ} {works : ℕ → ℕ} {before members : List ℕ}
    {total distances i : ℕ} {t : List ℕ} (anew : Bool)
    → Turned used ks ws s k works before members total distances i → used ≤ i
    → Summed (member_at members) ks ws (covered anew used i) t → Summed (joins (colours_of used ks ws) k s) ks ws used t
joined-sums {used} {ks} {ws} {s} {k} {before = before} {members} {i = i} {t} anew x l sums =
    let m = joins (colours_of used ks ws) k s in
    summed_same (member_at members) m ks ws used t
    (λ j h. rw x.filled (fill-at i j m before (omega arith) (omega (arith, x.fitted.room))))
    (rw (covered-all anew used i (omega (arith, x.within))) at sums)
