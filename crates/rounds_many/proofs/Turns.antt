-- Rounds one after the other: where they stand after r of them, and how they end.
use Prim.Native.Nat.{ℕ, zero, suc, ◌+◌, ◌*◌, ◌≤◌, ◌<◌}
use mathlib.Core.Bool.{Bool, true, false}
use mathlib.Core.List.{List}
use mathlib.Core.Path.{◌≡◌, refl, sym, ap, ◌∙◌}
use native.Mathlib.Nat.{mul-le-mul_right}
use native.Mathlib.Omega.{arith}
use lib.Dec.{eqb}
use lib.ListN.{set, length}
use borrow.Author.Count.{below_more}
use borrow.Author.Tests.{eq-eqb, ne_eqb, lt-ltb, le-ltb}
use Rattle.number.specs.{sum, fill, first_that}
use Rattle.number.proofs.Fills.{fill_more}
use Rattle.number.proofs.Firsts.{first-that-only}
use Rattle.number.proofs.Sums.{sum_more, sum_bound}
use Rattle.table_entries.specs.{most_entries}
use Rattle.shades.specs.{most_shades}
use Rattle.method.specs.{
  most_rounds,
  Colours,
  Fair,
  Rule,
  GoodRule,
  State,
  colours_of,
  step,
  after,
  quiet,
  total_of,
  moved_of,
  short_distances,
  rounds_made,
}
use Rattle.method.proofs.Falls.{after_more, step-fit, grouped-below}
use Rattle.method.proofs.Runs.{made_quiet}
use Rattle.method.proofs.Sizes.{fair-of-table, short-at-most}
use Rattle.rounds_step.specs.{Steppable, Walkable, StepMeets}
use Rattle.rounds_many.specs.Meeting.{SeriesMeets}

-- after a round the members are shades' numbers and all is fit for the next
step-walkable : {used : ℕ} {ks ws : List ℕ} {k : ℕ} {a : State} (rule : Rule) → GoodRule rule
    → Steppable used ks ws k a → Walkable used ks ws k (step rule (colours_of used ks ws) k a)
step-walkable {used} {ks} {ws} {k} {a} rule good p = record {
  steppable = record {
    table = p.table;
    fit = step-fit (colours_of used ks ws) k a p.fit rule good (fair-of-table p.table);
  };
  joined = grouped-below (colours_of used ks ws) k a p.fit;
}

-- and after any number of rounds, where it was so before
pub after-walkable : {used : ℕ} {ks ws : List ℕ} {k : ℕ} {a : State} (rule : Rule) → GoodRule rule
    → Walkable used ks ws k a → (r : ℕ) → Walkable used ks ws k (after rule (colours_of used ks ws) k a r)
unfolding after
after-walkable rule good p zero = p
after-walkable rule good p (suc r) = step-walkable rule good (after-walkable rule good p r).steppable

module _ (rule : Rule) (C : Colours) (k : ℕ) (a : State) where
  -- which rounds are quiet
  abbrev still : ℕ → Bool
  still = quiet rule C k a

  -- the state after some rounds
  abbrev at : ℕ → State
  at r = after rule C k a r

  -- the distances of r rounds fit
  distances-at-most : Fair C → k ≤ most_shades → (r : ℕ) → r ≤ most_rounds
      → sum r (λ n. short_distances C k (after rule C k a n)) ≤ most_rounds * (most_entries * (most_shades + 1))
  distances-at-most f few r h =
      omega (
        arith,
        sum_bound r (most_entries * (most_shades + 1)) (λ n. short_distances C k (at n))
            (λ n l. short-at-most C f k (at n) few),
        mul-le-mul_right (most_entries * (most_shades + 1)) h,
      )

  -- r rounds are made: where they leave the state, and what they answered so far
  pub record Made (before : List ℕ) (z : State) (totals : List ℕ) (r distances : ℕ) : Type 0 where
    pub state : z ≡ after rule C k a r
    pub totals_is : totals ≡ fill r (λ n. total_of C k (after rule C k a n)) before
    pub distances_is : distances ≡ sum r (λ n. short_distances C k (after rule C k a n))

  -- none of the first r rounds is quiet
  abbrev pub Moving : ℕ → Type 0
  Moving r = (n : ℕ) → n < r → quiet rule C k a n ≡ false

  -- none is made
  pub made_start : (before : List ℕ) → Made before a before 0 0
  unfolding after fill sum
  made_start before = record { state = refl; totals_is = refl; distances_is = refl }

  module _ {before totals : List ℕ} {z : State} {r distances : ℕ} (g : Made before z totals r distances) where
    -- the distances of one round more are added without overflow
    pub made-counted : {limit : ℕ} → r < limit → limit ≤ most_rounds → Fair C → k ≤ most_shades → (counted : ℕ)
        → counted ≡ short_distances C k z → distances + counted ≤ most_rounds * (most_entries * (most_shades + 1))
    made-counted h most fair few counted e =
        omega (
          arith,
          distances-at-most fair few (r + 1) (omega arith),
          sum_more r (λ n. short_distances C k (at n)),
          e ∙ ap (short_distances C k) g.state,
          g.distances_is,
        )

    -- rounds up to the limit, none of them quiet
    pub all-moving : {limit : ℕ} → r ≡ limit → Moving r
        → SeriesMeets rule C k limit a z before totals limit false distances
    all-moving {limit} end moving =
        let none : limit ≡ first_that limit still
        = first-that-only limit still limit (record {
          within = omega arith;
          before = λ n l. moving n (omega arith);
          found = λ l. absurd (omega arith);
        }) in
        let m : r ≡ rounds_made limit still = end ∙ rw (le-ltb (first_that limit still) limit (omega arith)) in
        record {
          rounds_is = sym end ∙ m;
          state = g.state ∙ ap at m;
          totals_is = rw m at g.totals_is;
          settled_is = sym (le-ltb (first_that limit still) limit (omega arith));
          distances_is = rw m at g.distances_is;
        }

    module _ {y : State} {total moved counted : ℕ}
        (m : StepMeets rule C k (short_distances C k) z y total moved counted) (room : r < length before) where
      -- one round more is made
      pub made-more : Made before y (set totals r total) (r + 1) (distances + counted)
      made-more = record {
        state = m.state ∙ ap (step rule C k) g.state ∙ sym (after_more rule C k a r);
        totals_is = rw (m.total_is ∙ ap (total_of C k) g.state, g.totals_is)
            (fill_more r (λ n. total_of C k (at n)) before room);
        distances_is = rw (m.distances_is ∙ ap (short_distances C k) g.state, g.distances_is)
            (sym (sum_more r (λ n. short_distances C k (at n))));
      }

      -- it is quiet just where it moved no shade
      quiet-is : quiet rule C k a r ≡ eqb moved 0
      quiet-is = sym (ap (λ n. eqb n 0) (m.moved_is ∙ ap (moved_of rule C k) g.state))

      -- where it moved one, none is quiet so far
      pub moving-more : Moving r → (moved ≡ 0 → ⊥) → Moving (r + 1)
      moving-more moving some = below_more (λ n. still n ≡ false) r moving (quiet-is ∙ ne_eqb moved 0 some)

      -- where it moved none, it is the first quiet one, and the last that is made
      pub settled-here : {limit : ℕ} → r < limit → Moving r → moved ≡ 0
          → SeriesMeets rule C k limit a y before (set totals r total) (r + 1) true (distances + counted)
      settled-here {limit} h moving none =
          let first : r ≡ first_that limit still
          = first-that-only limit still r (record {
            within = omega arith;
            before = moving;
            found = λ l. quiet-is ∙ eq-eqb moved 0 none;
          }) in
          let last : r + 1 ≡ rounds_made limit still = omega (arith, first, made_quiet limit still (omega arith)) in
          record {
            rounds_is = last;
            state = made-more.state ∙ ap at last;
            totals_is = rw last at made-more.totals_is;
            settled_is = sym (lt-ltb (first_that limit still) limit (omega arith));
            distances_is = rw last at made-more.distances_is;
          }
