-- The loop of the test that goes over the weights: what holds at each turn.
use mathlib.Core.Path.{◌≡◌, refl}
use mathlib.Core.List.{List}
use Prim.Native.Nat.{ℕ, ◌+◌, ◌*◌, ◌≤◌, ◌<◌}
use native.Mathlib.Omega.{arith}
use Rattle.number.specs.{bit, sum, how_many}
use Rattle.number.proofs.Sums.{sum_more}
use Rattle.number.proofs.Tallies.{Counting, counting-start, counting-step, counting-done}
use Rattle.table_test.specs.Testing.{empty_at, weight_at}

-- the weights before place i are counted and added up
pub record Weighing (ws : List ℕ) (used zeros total i : ℕ) : Type 0 where
  pub counting : Counting used (empty_at ws) zeros i
  pub sums : total ≡ sum i (weight_at ws)
  pub small : total ≤ i * 4294967296

-- nothing is added
pub weighing-start : (ws : List ℕ) (used : ℕ) → Weighing ws used 0 0 0
unfolding sum
weighing-start ws used = record { counting = counting-start used (empty_at ws); sums = refl; small = omega arith }

-- the weight of place i is counted and added
pub weighing-step : {ws : List ℕ} {used zeros total i : ℕ} → Weighing ws used zeros total i → i < used
    → (one w : ℕ) → one ≡ bit (empty_at ws i) → w ≡ weight_at ws i → w < 4294967296
    → Weighing ws used (zeros + one) (total + w) (i + 1)
weighing-step {ws} {used} {zeros} {total} {i} t l one w e d b =
    let s : sum (i + 1) (weight_at ws) ≡ sum i (weight_at ws) + weight_at ws i = sum_more i (weight_at ws) in
    record {
      counting = counting-step t.counting l one e;
      sums = omega (arith, t.sums);
      small = omega (arith, t.small);
    }

-- every weight is counted and added
pub weighing-done : {ws : List ℕ} {used zeros total i : ℕ} → Weighing ws used zeros total i → used ≤ i
    → (zeros ≡ how_many used (empty_at ws)) × (total ≡ sum used (weight_at ws))
weighing-done {ws} {used} {zeros} {total} {i} t l =
    let e : i ≡ used = omega (arith, t.counting.within) in
    (counting-done t.counting l, rw e at t.sums)
