-- Totals never rise, over any rule that costs a group no more than staying and keeps to the grid.
use mathlib.Core.Bool.{true}
use mathlib.Core.Path.{◌≡◌, refl, ap, ◌∙◌}
use Prim.Native.Nat.{ℕ, zero, suc, ◌+◌, ◌*◌, ◌≤◌, ◌<◌}
use native.Mathlib.Nat.{le_trans}
use native.Mathlib.Numerals.{add-one}
use native.Mathlib.Omega.{arith}
use lib.ListN.{get_or}
use Rattle.number.specs.{sum}
use Rattle.number.proofs.Fills.{fill-at, fill-length, fill-kept}
use Rattle.number.proofs.Sums.{sum-eq, sum-le}
use Rattle.colour.specs.{distance}
use Rattle.shades.specs.{shade_at, coordinate_of, same_place}
use Rattle.shades.proofs.Laying.{shade-laid, laid-low, laid-length, shade-within, same-place-exactly}
use Rattle.shades.proofs.Nearest.{nearest-below}
use Rattle.method.specs.Colouring.{Colours, cost_at, Fair}
use Rattle.method.specs.Rules.{Rule, GoodRule, Holds}
use Rattle.method.specs.Rounding.{
  State,
  joins,
  grouped,
  group_in,
  total_of,
  final_of,
  moved_to,
  step,
  after,
  Fit,
  Joined,
}
use Rattle.method.proofs.Totals.{total-by-groups, nearest-total-least}

-- ---- one round

module _ (C : Colours) (k : ℕ) (a : State) (f : Fit C k a) where
  -- a used member after the grouping is the shade joined
  pub member-joined : (i : ℕ) → i < C.n → get_or (grouped C k a) i 0 ≡ joins C k a.coordinates i
  member-joined i h = fill-at C.n i (joins C k a.coordinates) a.members h (omega (arith, f.room))

  -- and the number of a shade
  pub grouped-below : (i : ℕ) → i < C.n → get_or (grouped C k a) i 0 < k
  grouped-below i h = rw (member-joined i h) (nearest-below a.coordinates k (C.c i) f.some)

  -- the total is that of the grouping, group by group
  pub total-of-groups : total_of C k a ≡ sum k (λ q. cost_at (group_in C k a q) (shade_at a.coordinates q))
  total-of-groups =
      total-by-groups C k (joins C k a.coordinates) (shade_at a.coordinates)
      (λ i l. nearest-below a.coordinates k (C.c i) f.some)

  module _ (rule : Rule) where
    -- a moved shade is read back
    pub shade-moved : (q : ℕ) → q < k → shade_at (step rule C k a).coordinates q ≡ moved_to rule C k a q
    shade-moved q h = shade-laid k (moved_to rule C k a) a.coordinates q h f.shades.room

    -- the grouping against the moved shades, group by group
    pub final-of-groups : final_of C (step rule C k a) ≡ sum k (λ q. cost_at (group_in C k a q) (moved_to rule C k a q))
    final-of-groups =
        sum-eq C.n _ (λ i. C.w i * distance (C.c i) (moved_to rule C k a (joins C k a.coordinates i)))
        (λ i l. ap (λ z. C.w i * distance (C.c i) z)
        (ap (shade_at (step rule C k a).coordinates) (member-joined i l)
        ∙ shade-moved (joins C k a.coordinates i) (nearest-below a.coordinates k (C.c i) f.some)))
        ∙ total-by-groups C k (joins C k a.coordinates) (moved_to rule C k a)
        (λ i l. nearest-below a.coordinates k (C.c i) f.some)

    -- what a round leaves costs no more than its total
    final-at-most-total : GoodRule rule → final_of C (step rule C k a) ≤ total_of C k a
    final-at-most-total n =
        omega (
          arith,
          final-of-groups,
          total-of-groups,
          sum-le k _ _ (λ q l. n.no_dearer q (group_in C k a q) (shade_at a.coordinates q)),
        )

    -- the next round's total is at most that
    next-at-most-final : total_of C k (step rule C k a) ≤ final_of C (step rule C k a)
    next-at-most-final =
        nearest-total-least C k (step rule C k a).coordinates (λ i. get_or (grouped C k a) i 0) grouped-below

    -- a round leaves a state fit for the next
    pub step-fit : GoodRule rule → Fair C → Fit C k (step rule C k a)
    step-fit g fair = record {
      some = f.some;
      shades = record {
        few = f.shades.few;
        room = rw (laid-length k (moved_to rule C k a) a.coordinates) f.shades.room;
        low = laid-low k (moved_to rule C k a) a.coordinates
            (λ q. g.keeps q (group_in C k a q) (shade_at a.coordinates q) fair.inside
            (shade-within a.coordinates q f.shades.low))
            f.shades.low;
      };
      room = rw (fill-length C.n (joins C k a.coordinates) a.members) f.room;
    }

-- ---- many rounds

module _ (rule : Rule) (C : Colours) (k : ℕ) (a : State) where
  -- one round more is a round of what the others leave
  pub after_more : (r : ℕ) → after rule C k a (r + 1) ≡ step rule C k (after rule C k a r)
  unfolding after
  after_more r = rw (add-one r)

  module _ (good : GoodRule rule) (fair : Fair C) (f : Fit C k a) where
    -- each round leaves a state fit for the next
    pub after-fit : (r : ℕ) → Fit C k (after rule C k a r)
    unfolding after
    after-fit zero = f
    after-fit (suc r) = step-fit C k (after rule C k a r) (after-fit r) rule good fair

    -- a shade that the rule holds stands where it stood
    pub after-held : (h : ℕ) → Holds h rule → (q : ℕ) → q < h → q < k → (r : ℕ)
        → shade_at (after rule C k a r).coordinates q ≡ shade_at a.coordinates q
    unfolding after
    after-held h held q below l zero = refl
    after-held h held q below l (suc r) =
        shade-moved C k (after rule C k a r) (after-fit r) rule q l
        ∙ held.holds q (group_in C k (after rule C k a r) q) (shade_at (after rule C k a r).coordinates q) below
        ∙ after-held h held q below l r

    -- and members that are numbers of shades, where they were so before
    pub after-joined : Joined C k a → (r : ℕ) → Joined C k (after rule C k a r)
    unfolding after
    after-joined j zero = j
    after-joined j (suc r) = grouped-below C k (after rule C k a r) (after-fit r)

    module _ (r : ℕ) where
      -- what round r leaves costs no more than its total
      pub rounds-end : final_of C (after rule C k a (r + 1)) ≤ total_of C k (after rule C k a r)
      rounds-end = rw (after_more r) (final-at-most-total C k (after rule C k a r) (after-fit r) rule good)

      -- no round's total is above that of the round before
      pub rounds-fall : total_of C k (after rule C k a (r + 1)) ≤ total_of C k (after rule C k a r)
      rounds-fall =
          le_trans
          (rw (after_more r) (next-at-most-final C k (after rule C k a r) (after-fit r) rule))
          rounds-end

-- ---- shades that a rule holds

-- none of them is counted as moved: it stands where it stood
pub held-not-moved : (rule : Rule) (C : Colours) (k : ℕ) (a : State) (h : ℕ) → Holds h rule → (q : ℕ) → q < h
    → same_place (moved_to rule C k a q) (shade_at a.coordinates q) ≡ true
held-not-moved rule C k a h held q below =
    (same-place-exactly (moved_to rule C k a q) (shade_at a.coordinates q)).1
    (held.holds q (group_in C k a q) (shade_at a.coordinates q) below)

-- ---- what no round changes

-- coordinates past the shades stay
pub after-past : (rule : Rule) (C : Colours) (k : ℕ) (a : State) (r i : ℕ) → 3 * k ≤ i
    → get_or (after rule C k a r).coordinates i 0 ≡ get_or a.coordinates i 0
unfolding after
after-past rule C k a zero i h = refl
after-past rule C k a (suc r) i h =
    fill-kept (3 * k) i (coordinate_of (moved_to rule C k (after rule C k a r))) (after rule C k a r).coordinates h
    ∙ after-past rule C k a r i h

-- members past the used entries stay
pub after_kept : (rule : Rule) (C : Colours) (k : ℕ) (a : State) (r i : ℕ) → C.n ≤ i
    → get_or (after rule C k a r).members i 0 ≡ get_or a.members i 0
unfolding after
after_kept rule C k a zero i h = refl
after_kept rule C k a (suc r) i h =
    fill-kept C.n i (joins C k (after rule C k a r).coordinates) (after rule C k a r).members h
    ∙ after_kept rule C k a r i h
