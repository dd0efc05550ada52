-- What a round leaves. By a rule that goes to the mean from shade f on, each shade from there is the best of the grid
-- for its group and near the least. By any rule, where no shade moved the grouping costs just the round's total.
use mathlib.Core.Bool.{cond, not}
use mathlib.Core.Path.{◌≡◌, refl, sym, ap, ap₂, ◌∙◌}
use Prim.Native.Nat.{ℕ, zero, suc, ◌*◌, ◌/◌, ◌%◌, ◌≤◌, ◌<◌}
use native.Mathlib.Decide.{dec_lt}
use native.Mathlib.Nat.{le_refl}
use native.Mathlib.Omega.{arith}
use lib.Dec.{eqb}
use lib.ListN.{get_or}
use borrow.Author.Tests.{ne_eqb}
use Rattle.number.specs.{sum, fill}
use Rattle.number.proofs.Counts.{how_many-none}
use Rattle.number.proofs.Cases.{not-not}
use Rattle.number.proofs.Fills.{fill-again, fill-self}
use Rattle.number.proofs.Sums.{sum-eq, sum-le, sum-zero}
use Rattle.colour.specs.{Point, distance}
use Rattle.shades.specs.{shade_at, axis, coordinate_of, same_place}
use Rattle.shades.proofs.Laying.{same-place-is, coordinate-read}
use Rattle.shades.proofs.Nearest.{nearest-same}
use Rattle.method.specs.Colouring.{Colours, pixels_in, cost_at, mean_of, group_of}
use Rattle.method.specs.Rules.{Rule, to_mean, Means, Rests}
use Rattle.method.specs.Rounding.{
  State,
  state_of,
  joins,
  grouped,
  group_in,
  total_of,
  final_of,
  moved_to,
  moved_of,
  step,
  Fit,
  group_at,
  group_cost,
}
use Rattle.method.specs.Leasts.{Bounded}
use Rattle.method.proofs.Costs.{
  empty-costs-nothing,
  cost-at-least,
  mean-cost-at-most,
  to-mean-moves,
  to-mean-least,
}
use Rattle.method.proofs.Totals.{total-by-groups, group-pixels-same, group-sum-same}
use Rattle.method.proofs.Falls.{
  member-joined,
  grouped-below,
  shade-moved,
  final-of-groups,
  total-of-groups,
}

-- groups by members that agree have one mean
group-mean-same : (C : Colours) (m l : ℕ → ℕ) (q : ℕ) → ((i : ℕ) → i < C.n → m i ≡ l i)
    → mean_of (group_of C m q) ≡ mean_of (group_of C l q)
group-mean-same C m l q same =
    rw (
      group-pixels-same C m l q same,
      group-sum-same C m l q (λ i. (C.c i).r) same,
      group-sum-same C m l q (λ i. (C.c i).g) same,
      group-sum-same C m l q (λ i. (C.c i).b) same,
    )

-- and go to one place
to-mean-same : (C : Colours) (m l : ℕ → ℕ) (q : ℕ) (z : Point) → ((i : ℕ) → i < C.n → m i ≡ l i)
    → to_mean q (group_of C m q) z ≡ to_mean q (group_of C l q) z
to-mean-same C m l q z same =
    ap₂ (λ (w : ℕ) (p : Point). cond (eqb w 0) z p) (group-pixels-same C m l q same) (group-mean-same C m l q same)

-- a group that weighs nothing is bounded, wherever its shade is
empty-bounded : (G : Colours) (z : Point) → pixels_in G ≡ 0 → Bounded G (cost_at G z)
empty-bounded G z e =
    let none = empty-costs-nothing G e z in
    record { at_least = cost-at-least G z; at_most = rw none (omega arith); empty = λ n. none }

-- ---- what a round by any rule leaves

module _ (rule : Rule) (C : Colours) (k : ℕ) (a : State) (fit : Fit C k a) where
  -- a number past the shades has no group
  past-empty : (q : ℕ) → k ≤ q → pixels_in (group_at C (step rule C k a) q) ≡ 0
  past-empty q h =
      sum-eq C.n _ (λ i. 0)
      (λ i l. ap (λ t. cond t (C.w i) 0)
      (ne_eqb (get_or (step rule C k a).members i 0) q (λ e. omega (arith, grouped-below C k a fit i l))))
      ∙ sum-zero C.n

  -- the members against any places of the shades, group by group
  spent-by-groups : (s : ℕ → Point)
      → sum C.n (λ i. C.w i * distance (C.c i) (s (get_or (step rule C k a).members i 0)))
      ≡ sum k (λ q. cost_at (group_at C (step rule C k a) q) (s q))
  spent-by-groups s =
      total-by-groups C k (λ i. get_or (step rule C k a).members i 0) s (grouped-below C k a fit)

  -- the final total is the sum of what the groups cost
  pub final-by-groups : final_of C (step rule C k a) ≡ sum k (group_cost C (step rule C k a))
  final-by-groups = spent-by-groups (shade_at (step rule C k a).coordinates)

  -- ---- and what one leaves that goes to the mean from shade f on

  module _ (f : ℕ) (mean : Means f rule) where
    -- each shade from there stands where Lloyd's rule puts it for its members
    shade-is : (q : ℕ) → f ≤ q → q < k
        → shade_at (step rule C k a).coordinates q
        ≡ to_mean q (group_at C (step rule C k a) q) (shade_at a.coordinates q)
    shade-is q free h =
        shade-moved C k a fit rule q h
        ∙ mean.means q (group_in C k a q) (shade_at a.coordinates q) free
        ∙ sym (to-mean-same C _ (joins C k a.coordinates) q (shade_at a.coordinates q) (member-joined C k a fit))

    -- one with a group stands on its rounded mean
    pub shade-on-mean : (q : ℕ) → f ≤ q → q < k → 0 < pixels_in (group_at C (step rule C k a) q)
        → shade_at (step rule C k a).coordinates q ≡ mean_of (group_at C (step rule C k a) q)
    shade-on-mean q free h pos =
        shade-is q free h ∙ to-mean-moves q (group_at C (step rule C k a) q) (shade_at a.coordinates q) pos

    -- no place is better for its group
    shade-best : (q : ℕ) → f ≤ q → q < k → (z : Point)
        → group_cost C (step rule C k a) q ≤ cost_at (group_at C (step rule C k a) q) z
    shade-best q free h z =
        rw (shade-is q free h) (to-mean-least q (group_at C (step rule C k a) q) (shade_at a.coordinates q) z)

    -- its cost is bounded by the least of fractional shades, from both sides
    pub shade-bounded : (q : ℕ) → f ≤ q
        → Bounded (group_at C (step rule C k a) q) (group_cost C (step rule C k a) q)
    shade-bounded q free = go (pixels_in (group_at C (step rule C k a) q)) refl (dec_lt q k)
      where
        go : (w : ℕ) → pixels_in (group_at C (step rule C k a) q) ≡ w → Dec (q < k)
            → Bounded (group_at C (step rule C k a) q) (group_cost C (step rule C k a) q)
        go zero e h = empty-bounded (group_at C (step rule C k a) q) _ e
        go (suc w) e (yes h) =
            record {
              at_least = cost-at-least (group_at C (step rule C k a) q) (shade_at (step rule C k a).coordinates q);
              at_most = rw (shade-on-mean q free h (omega arith))
                  (mean-cost-at-most (group_at C (step rule C k a) q) (omega arith));
              empty = λ n. absurd (omega arith);
            }
        go (suc w) e (no h) = absurd (omega (arith, past-empty q (omega arith)))

    -- with the shades below f where they are, no other shades give this grouping a smaller total
    pub final-least : (s : ℕ → Point) → ((q : ℕ) → q < f → s q ≡ shade_at (step rule C k a).coordinates q)
        → final_of C (step rule C k a)
        ≤ sum C.n (λ i. C.w i * distance (C.c i) (s (get_or (step rule C k a).members i 0)))
    final-least s fixed =
        omega (arith, final-by-groups, spent-by-groups s, sum-le k _ _ (λ q h. better q h (dec_lt q f)))
      where
        better : (q : ℕ) → q < k → Dec (q < f)
            → group_cost C (step rule C k a) q ≤ cost_at (group_at C (step rule C k a) q) (s q)
        better q h (yes l) = rw (fixed q l) (le_refl _)
        better q h (no l) = shade-best q (omega arith) h (s q)

-- ---- a round that moves no shade, by any rule

module _ (rule : Rule) (C : Colours) (k : ℕ) (a : State) (fit : Fit C k a) (still : moved_of rule C k a ≡ 0) where
  -- each shade stays
  shade-stays : (q : ℕ) → q < k → moved_to rule C k a q ≡ shade_at a.coordinates q
  shade-stays q h =
      same-place-is (moved_to rule C k a q) (shade_at a.coordinates q)
      (not-not (same_place (moved_to rule C k a q) (shade_at a.coordinates q))
      (how_many-none k (λ p. not (same_place (moved_to rule C k a p) (shade_at a.coordinates p))) still q h))

  -- and the grouping costs just the round's total
  pub still-final : final_of C (step rule C k a) ≡ total_of C k a
  still-final =
      final-of-groups C k a fit rule
      ∙ sum-eq k _ _ (λ q h. ap (cost_at (group_in C k a q)) (shade-stays q h))
      ∙ sym (total-of-groups C k a fit)

  -- the shades stand where they stood
  still-shades : (q : ℕ) → q < k → shade_at (step rule C k a).coordinates q ≡ shade_at a.coordinates q
  still-shades q h = shade-moved C k a fit rule q h ∙ shade-stays q h

  -- and each member is the nearest of them
  pub still-joined : (i : ℕ) → i < C.n
      → get_or (step rule C k a).members i 0 ≡ joins C k (step rule C k a).coordinates i
  still-joined i h =
      member-joined C k a fit i h
      ∙ nearest-same a.coordinates (step rule C k a).coordinates k (λ q l. sym (still-shades q l)) (C.c i)

  -- a shade with a group stands on its rounded mean, where the rule rests only there
  pub still-on-mean : (f : ℕ) → Rests f rule → (q : ℕ) → f ≤ q → q < k
      → 0 < pixels_in (group_at C (step rule C k a) q)
      → shade_at (step rule C k a).coordinates q ≡ mean_of (group_at C (step rule C k a) q)
  still-on-mean f resting q free h pos =
      let same = group-pixels-same C _ (joins C k a.coordinates) q (member-joined C k a fit) in
      still-shades q h
      ∙ resting.rests q (group_in C k a q) (shade_at a.coordinates q) free (rw same at pos) (shade-stays q h)
      ∙ sym (group-mean-same C _ (joins C k a.coordinates) q (member-joined C k a fit))

  -- every coordinate is what it was
  still-coordinates : (step rule C k a).coordinates ≡ a.coordinates
  still-coordinates =
      fill-self (3 * k) (coordinate_of (moved_to rule C k a)) a.coordinates
      (λ i l. sym (ap (axis (i % 3)) (shade-stays (i / 3) (omega arith)) ∙ coordinate-read a.coordinates i))

  -- so another round moves no shade
  pub still-moves-none : moved_of rule C k (step rule C k a) ≡ 0
  still-moves-none = ap (λ cs. moved_of rule C k (state_of cs a.members)) still-coordinates ∙ still

  -- has the same total
  pub still-total : total_of C k (step rule C k a) ≡ total_of C k a
  still-total = ap (λ cs. total_of C k (state_of cs a.members)) still-coordinates

  -- and leaves everything as it is
  pub still-again : step rule C k (step rule C k a) ≡ step rule C k a
  still-again =
      ap₂ state_of
      (ap (λ cs. (step rule C k (state_of cs a.members)).coordinates) still-coordinates)
      (ap (λ cs. fill C.n (joins C k cs) (grouped C k a)) still-coordinates
      ∙ fill-again C.n (joins C k a.coordinates) (joins C k a.coordinates) a.members)
