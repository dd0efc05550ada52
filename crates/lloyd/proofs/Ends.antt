-- Where a run that is made ends: what its last grouping costs where its rule goes to the mean, and what holds where it
-- is settled. What more a law asks of the rule stands in front of it.
use Prim.Native.Nat.{ℕ, ◌-◌, ◌*◌, ◌≤◌, ◌<◌}
use mathlib.Core.Bool.{true}
use mathlib.Core.List.{List}
use mathlib.Core.Path.{◌≡◌, sym, ap, ◌∙◌}
use native.Mathlib.Omega.{arith}
use lib.ListN.{get_or}
use borrow.Author.Tests.{eqb-true}
use Rattle.number.specs.{sum, sum_of, numbers_below}
use Rattle.number.proofs.ListSums.{sum_of-numbers}
use Rattle.colour.specs.{Point, distance}
use Rattle.shades.specs.{shade_at}
use Rattle.method.specs.{
  Rule,
  Means,
  Rests,
  Colours,
  State,
  Bounded,
  SumBounded,
  least_sum,
  From,
  group_at,
  group_cost,
  pixels_in,
  mean_of,
  after,
  moved_of,
  joins,
}
use Rattle.method.proofs.Bounds.{from_zero_lem, sum-bounded}
use Rattle.method.proofs.Ends.{
  shade-on-mean,
  shade-bounded,
  final-least,
  still-final,
  still-joined,
  still-on-mean,
}
use Rattle.lloyd.specs.Outcomes.{left}
use Rattle.lloyd.specs.declared.Ran.{Ran}
use Rattle.lloyd.proofs.Made.{
  Making,
  rounds-within,
  settled_is,
  fit_at,
  shades-last,
  members-last,
  total-last,
  total-is-groups,
  groups-have-all,
  total-recorded,
}

module _ {rule : Rule} {C : Colours} {k limit : ℕ} {a : State} {ts : List ℕ} {r : Ran} {members totals : List ℕ}
    (m : Making rule C k limit a ts r members totals) where
  -- ---- the shades from f on, of a rule that goes to the mean there

  module _ (f : ℕ) (mean : Means f rule) where
    -- with the others where they are, no other shades give the last grouping a smaller total
    pub final-is-least : (s : ℕ → Point) → ((q : ℕ) → q < f → s q ≡ shade_at r.shades q)
        → r.total ≤ sum C.n (λ i. C.w i * distance (C.c i) (s (get_or members i 0)))
    final-is-least s fixed =
        rw (total-last m, members-last m)
        (final-least rule C k (after rule C k a (r.rounds - 1)) (fit_at m (r.rounds - 1)) f mean s
        (λ q l. fixed q l ∙ ap (λ c. shade_at c q) (shades-last m)))

    -- the cost of each group from f on is bounded by its least
    pub group-bounded : (q : ℕ) → f ≤ q → Bounded (group_at C (left r members) q) (group_cost C (left r members) q)
    group-bounded q free =
        rw (shades-last m, members-last m)
        (shade-bounded rule C k (after rule C k a (r.rounds - 1)) (fit_at m (r.rounds - 1)) f mean q free)

    -- and so is the sum over any of them
    pub groups-bounded : (qs : List ℕ) → From f qs
        → SumBounded (least_sum (group_at C (left r members)) qs)
        (sum_of (λ q. pixels_in (group_at C (left r members) q)) qs) (sum_of (group_cost C (left r members)) qs)
    groups-bounded qs free =
        sum-bounded f (group_at C (left r members)) (group_cost C (left r members)) qs free group-bounded

    -- a shade with a group stands on its rounded mean
    pub stands-on-mean : (q : ℕ) → f ≤ q → q < k → 0 < pixels_in (group_at C (left r members) q)
        → shade_at r.shades q ≡ mean_of (group_at C (left r members) q)
    stands-on-mean q free l =
        rw (shades-last m, members-last m)
        (shade-on-mean rule C k (after rule C k a (r.rounds - 1)) (fit_at m (r.rounds - 1)) f mean q free l)

  -- where the rule goes to the mean throughout, the final total is bounded by the leasts of all groups
  pub total-bounded : Means 0 rule
      → SumBounded (least_sum (group_at C (left r members)) (numbers_below k)) (pixels_in C) r.total
  total-bounded mean =
      let pixels = sum_of-numbers k (λ q. pixels_in (group_at C (left r members) q)) ∙ sym (groups-have-all m) in
      let cost = sum_of-numbers k (group_cost C (left r members)) ∙ sym (total-is-groups m) in
      rw (pixels, cost) at (groups-bounded 0 mean (numbers_below k) (from_zero_lem (numbers_below k)))

  -- ---- a settled run

  module _ (settled : r.settled ≡ true) where
    -- the last round moves no shade
    still : moved_of rule C k (after rule C k a (r.rounds - 1)) ≡ 0
    still = eqb-true _ 0 (sym (settled_is m) ∙ settled)

    -- then the final total is the last recorded one
    pub settled-final : r.total ≡ get_or totals (r.rounds - 1) 0
    settled-final =
        total-last m
        ∙ still-final rule C k (after rule C k a (r.rounds - 1)) (fit_at m (r.rounds - 1)) still
        ∙ sym (total-recorded m (r.rounds - 1) (omega (arith, rounds-within m)))

    -- each member is the nearest of the final shades
    pub settled-joined : (i : ℕ) → i < C.n → get_or members i 0 ≡ joins C k r.shades i
    settled-joined i l =
        rw (members-last m, shades-last m)
        (still-joined rule C k (after rule C k a (r.rounds - 1)) (fit_at m (r.rounds - 1)) still i l)

    -- and each shade with a group from f on stands on its rounded mean, where the rule rests only there
    pub settled-on-mean : (f : ℕ) → Rests f rule → (q : ℕ) → f ≤ q → q < k
        → 0 < pixels_in (group_at C (left r members) q)
        → shade_at r.shades q ≡ mean_of (group_at C (left r members) q)
    settled-on-mean f resting q free l =
        rw (shades-last m, members-last m)
        (still-on-mean rule C k (after rule C k a (r.rounds - 1)) (fit_at m (r.rounds - 1)) still f resting q free l)
