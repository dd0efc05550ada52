-- One turn of a grouping, whichever search finds the shades: an entry joins its nearest shade, and its cost is added.
use Prim.Native.Nat.{ℕ, ◌+◌, ◌*◌, ◌≤◌, ◌<◌}
use mathlib.Core.List.{List}
use mathlib.Core.Path.{◌≡◌, refl, sym, ap, ◌∙◌}
use native.Mathlib.Nat.{le_refl}
use native.Mathlib.Omega.{arith}
use lib.ListN.{length, get_or, set}
use Rattle.number.specs.{sum, fill}
use Rattle.number.proofs.Fills.{fill-length, fill-kept, fill_more, fill-again}
use Rattle.number.proofs.Sums.{sum_more, sum_bound}
use Rattle.colour.specs.{most_pixels, most_distance}
use Rattle.colour.proofs.Distances.{colour-within}
use Rattle.shades.specs.{most_shades, colour_at, Shades, nearest_shade}
use Rattle.shades.proofs.Laying.{to-shade-most}
use Rattle.shades.proofs.Nearest.{nearest-below}
use Rattle.table_entries.specs.{Tabled}
use Rattle.method.specs.{colours_of, joins, remote}
use Rattle.method.proofs.Sizes.{fair-of-table, spent-at-most}
use Rattle.group_sums.specs.{Summed}
use Rattle.level_sums.proofs.Bounds.{weight-at-most}
use Rattle.group_join.specs.Answer.{Grouped}

-- what both loops ask: a table, some shades where it has entries, a member for each entry, and at most 65 distances
-- worked out for one
pub record Fitted (used : ℕ) (ks ws s : List ℕ) (k : ℕ) (works : ℕ → ℕ) (before : List ℕ) : Type 0 where
  pub table : Tabled used ks ws
  pub shades : Shades k s
  pub some : 0 < used → 0 < k
  pub room : used ≤ length before
  pub few : (j : ℕ) → works j ≤ most_shades + 1

-- what entry i costs: its weight times the distance to its nearest shade
abbrev pub costs : List ℕ → List ℕ → List ℕ → ℕ → ℕ → ℕ
costs ks ws s k i = get_or ws i 0 * remote s k (colour_at ks i)

-- the first i entries have joined their shades, from the members before; works j distances are counted for entry j
pub record Turned (used : ℕ) (ks ws s : List ℕ) (k : ℕ) (works : ℕ → ℕ) (before members : List ℕ)
    (total distances i : ℕ) : Type 0 where
  pub fitted : Fitted used ks ws s k works before
  pub within : i ≤ used
  pub filled : members ≡ fill i (joins (colours_of used ks ws) k s) before
  pub total_is : total ≡ sum i (costs ks ws s k)
  pub distances_is : distances ≡ sum i works

-- what entry i is found to have: its shade, and its cost
pub record Finds (ks ws s : List ℕ) (k i number cost : ℕ) : Type 0 where
  pub number_is : number ≡ nearest_shade s k (colour_at ks i)
  pub cost_is : cost ≡ costs ks ws s k i

-- that is its nearest shade, and its weight times the distance to it
pub finds-of : {ks ws s : List ℕ} {k i number d cost : ℕ} → number ≡ nearest_shade s k (colour_at ks i)
    → d ≡ remote s k (colour_at ks i) → cost ≡ get_or ws i 0 * d → Finds ks ws s k i number cost
finds-of {ws = ws} {i = i} e f g = record { number_is = e; cost_is = g ∙ ap (λ d. get_or ws i 0 * d) f }

-- no entry has joined
pub turned-start : {used : ℕ} {ks ws s : List ℕ} {k : ℕ} {works : ℕ → ℕ} {before : List ℕ}
    → Fitted used ks ws s k works before → Turned used ks ws s k works before before 0 0 0
unfolding fill sum
turned-start f = record { fitted = f; within = omega arith; filled = refl; total_is = refl; distances_is = refl }

module _ {used : ℕ} {ks ws s : List ℕ} {k : ℕ} {works : ℕ → ℕ} {before members : List ℕ} {total distances i : ℕ}
    (x : Turned used ks ws s k works before members total distances i) where
  -- there are as many members as before
  pub turned-length : length members ≡ length before
  turned-length = rw x.filled (fill-length i _ before)

  -- the member of the entry to come is that before
  pub turned-kept : get_or members i 0 ≡ get_or before i 0
  turned-kept = rw x.filled (fill-kept i i _ before (le_refl i))

  -- every entry has joined, and the sums are those of the groups
  pub turned-done : used ≤ i → {t : List ℕ} → Summed (joins (colours_of used ks ws) k s) ks ws used t
      → Grouped used ks ws s k before members total t
  turned-done l sums =
      let e : i ≡ used = omega (arith, x.within) in
      record { members = rw e at x.filled; total_is = rw e at x.total_is; sums = sums }

  -- and is counted
  pub turned-distances : used ≤ i → distances ≡ sum used works
  turned-distances l = let e : i ≡ used = omega (arith, x.within) in rw e at x.distances_is

  module _ (l : i < used) where
    -- there are shades
    pub turned-some : 0 < k
    turned-some = x.fitted.some (omega arith)

    -- the entry's shade is one of 64
    pub number-below : nearest_shade s k (colour_at ks i) < most_shades
    number-below = omega (arith, nearest-below s k (colour_at ks i) turned-some, x.fitted.shades.few)

    -- the entry's weight and distance are those of a table
    pub turned-low : (d : ℕ) → d ≡ remote s k (colour_at ks i) → (get_or ws i 0 ≤ most_pixels) × (d ≤ most_distance)
    turned-low d e = (
      weight-at-most used ks ws x.fitted.table i l,
      rw e (to-shade-most s (colour_at ks i) _ x.fitted.shades.low (colour-within (get_or ks i 0))),
    )

    -- the distances stay below 2^64
    pub distances-fit : (n : ℕ) → n ≡ works i → distances + n ≤ 18446744073709551615
    distances-fit n e =
        omega (
          arith,
          x.distances_is,
          sum_more i works,
          sum_bound (i + 1) (most_shades + 1) works (λ j h. x.fitted.few j),
          x.fitted.table.few,
        )

    module _ {number cost : ℕ} (g : Finds ks ws s k i number cost) where
      -- the total stays below 2^64
      pub total-fits : total + cost ≤ 18446744073709551615
      total-fits =
          omega (
            arith,
            x.total_is,
            g.cost_is,
            sum_more i (costs ks ws s k),
            spent-at-most (colours_of used ks ws) (fair-of-table x.fitted.table) s x.fitted.shades.low
                (joins (colours_of used ks ws) k s) (i + 1) (omega arith),
          )

      -- entry i has joined
      pub turned-step : (n : ℕ) → n ≡ works i
          → Turned used ks ws s k works before (set members i number) (total + cost) (distances + n) (i + 1)
      turned-step n e = record {
        fitted = x.fitted;
        within = omega arith;
        filled = rw (x.filled, g.number_is) (fill_more i _ before (omega (arith, x.fitted.room)));
        total_is = rw (x.total_is, g.cost_is) (sym (sum_more i (costs ks ws s k)));
        distances_is = rw (x.distances_is, e) (sym (sum_more i works));
      }

-- a grouping from members that were overwritten is one from the members before that
pub grouped-again : {used : ℕ} {ks ws s : List ℕ} {k : ℕ} {before after : List ℕ} {total : ℕ} {t : List ℕ}
    (f : ℕ → ℕ) (d : List ℕ) → before ≡ fill used f d → Grouped used ks ws s k before after total t
    → Grouped used ks ws s k d after total t
grouped-again {used} f d e y = record {
  members = rw (e, fill-again used _ f d) at y.members;
  total_is = y.total_is;
  sums = y.sums;
}
