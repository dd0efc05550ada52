-- What a run that is made leaves and answers: from any state that is fit for a round, by any good rule.
use Prim.Native.Nat.{ℕ, ◌+◌, ◌-◌, ◌*◌, ◌≤◌, ◌<◌}
use mathlib.Core.Bool.{false}
use mathlib.Core.List.{List}
use mathlib.Core.Path.{◌≡◌, sym, ap, ap₂, ◌∙◌}
use native.Mathlib.Nat.{le_refl, le_trans, mul-le-mul, mul-le-mul_left}
use native.Mathlib.Omega.{arith}
use lib.ListN.{get_or, length}
use lib.Dec.{eqb}
use Rattle.std.specs.Prelude.{Ok}
use Rattle.number.specs.{sum}
use Rattle.number.proofs.Fills.{fill-at, fill-kept}
use Rattle.number.proofs.Sums.{sum_bound}
use Rattle.colour.specs.{most_pixels, most_distance}
use Rattle.table_entries.specs.{most_entries}
use Rattle.shades.specs.{shade_at, most_shades, OnGrid}
use Rattle.method.specs.{
  Rule,
  GoodRule,
  Holds,
  Colours,
  Fair,
  State,
  state_of,
  Fit,
  Joined,
  group_at,
  group_cost,
  group_in,
  pixels_in,
  step,
  after,
  quiet,
  total_of,
  moved_of,
  final_of,
  short_distances,
  rounds_made,
}
use Rattle.method.proofs.Ends.{final-by-groups}
use Rattle.method.proofs.Falls.{
  after_more,
  after-fit,
  after-joined,
  after-held,
  after-past,
  after_kept,
  rounds-fall,
  rounds-end,
  grouped-below,
  shade-moved,
}
use Rattle.method.proofs.Runs.{made-at-most, made_some, made-last, made-before}
use Rattle.method.proofs.Sizes.{spent-at-most, short-at-most-plain}
use Rattle.method.proofs.Totals.{pixels-by-groups}
use Rattle.lloyd_rounds.proofs.Rounds.{ok-only}
use Rattle.lloyd.specs.Outcomes.{made_ran, made_run, left, RunMeets}
use Rattle.lloyd.specs.declared.Ran.{Ran}

-- answer and slices are those of a run that is made, and it can be made: from state a by the rule, to the limit
pub record Making (rule : Rule) (C : Colours) (k limit : ℕ) (a : State) (ts : List ℕ) (r : Ran)
    (members totals : List ℕ) : Type 0 where
  pub meets : RunMeets (made_run rule C k limit a ts) (Ok r) members totals
  pub good : GoodRule rule
  pub fair : Fair C
  pub fit : Fit C k a
  pub some : 0 < limit
  pub room : limit ≤ length ts

module _ {rule : Rule} {C : Colours} {k limit : ℕ} {a : State} {ts : List ℕ} {r : Ran} {members totals : List ℕ}
    (m : Making rule C k limit a ts r members totals) where
  -- its answer is what the rounds make
  pub answer-is : r ≡ made_ran rule C k limit a
  answer-is = ok-only m.meets.answer

  -- ---- the rounds

  -- the rounds are those of the run
  pub rounds-made : r.rounds ≡ rounds_made limit (quiet rule C k a)
  rounds-made = ap (λ (x : Ran). x.rounds) answer-is

  -- they are 1 at least and the limit at most
  pub rounds-within : (0 < r.rounds) × (r.rounds ≤ limit)
  rounds-within =
      rw rounds-made (made_some limit (quiet rule C k a) m.some, made-at-most limit (quiet rule C k a))

  -- no round before the last moves no shade
  pub moved_before : (n : ℕ) → n + 1 < r.rounds → eqb (moved_of rule C k (after rule C k a n)) 0 ≡ false
  moved_before n l = made-before limit (quiet rule C k a) n (rw rounds-made at l)

  -- settled is said exactly when the last round moves no shade
  pub settled_is : r.settled ≡ eqb (moved_of rule C k (after rule C k a (r.rounds - 1))) 0
  settled_is =
      ap (λ (x : Ran). x.settled) answer-is
      ∙ sym (made-last limit (quiet rule C k a) r.rounds rounds-within.0 rounds-made)

  -- each state on the way is fit
  pub fit_at : (n : ℕ) → Fit C k (after rule C k a n)
  fit_at = after-fit rule C k a m.good m.fair m.fit

  -- each round moves a shade by the rule
  pub moves-by-rule : (n q : ℕ) → q < k
      → shade_at (after rule C k a (n + 1)).coordinates q
      ≡ rule q (group_in C k (after rule C k a n) q) (shade_at (after rule C k a n).coordinates q)
  moves-by-rule n q l =
      ap (λ (z : State). shade_at z.coordinates q) (after_more rule C k a n)
      ∙ shade-moved C k (after rule C k a n) (fit_at n) rule q l

  -- ---- what the last round leaves

  -- all rounds are the last one, of what the others leave
  by_last : after rule C k a (rounds_made limit (quiet rule C k a)) ≡ step rule C k (after rule C k a (r.rounds - 1))
  by_last =
      let e : rounds_made limit (quiet rule C k a) ≡ r.rounds - 1 + 1 = omega (arith, rounds-made, rounds-within) in
      ap (after rule C k a) e ∙ after_more rule C k a (r.rounds - 1)

  -- the shades are its shades
  pub shades-last : r.shades ≡ (step rule C k (after rule C k a (r.rounds - 1))).coordinates
  shades-last = ap (λ (x : Ran). x.shades) answer-is ∙ ap (λ (z : State). z.coordinates) by_last

  -- the members are its members
  pub members-last : members ≡ (step rule C k (after rule C k a (r.rounds - 1))).members
  members-last = m.meets.members_are ∙ ap (λ (z : State). z.members) by_last

  -- and the final total is that of both
  pub total-last : r.total ≡ final_of C (step rule C k (after rule C k a (r.rounds - 1)))
  total-last = ap (λ (x : Ran). x.total) answer-is ∙ ap (final_of C) by_last

  -- it leaves what it has after its rounds
  pub left_is : left r members ≡ after rule C k a r.rounds
  left_is =
      ap₂ state_of (ap (λ (x : Ran). x.shades) answer-is) m.meets.members_are
      ∙ ap (after rule C k a) (sym rounds-made)

  -- and that is fit for a round
  pub left-fit : Fit C k (left r members)
  left-fit = rw left_is (fit_at r.rounds)

  -- the final total is the sum of what the groups cost
  pub total-is-groups : r.total ≡ sum k (group_cost C (left r members))
  total-is-groups =
      rw (total-last, shades-last, members-last)
      (final-by-groups rule C k (after rule C k a (r.rounds - 1)) (fit_at (r.rounds - 1)))

  -- each used member is a shade's number
  pub member_below : (i : ℕ) → i < C.n → get_or members i 0 < k
  member_below i l =
      rw members-last (grouped-below C k (after rule C k a (r.rounds - 1)) (fit_at (r.rounds - 1)) i l)

  -- and the groups have all pixels
  pub groups-have-all : pixels_in C ≡ sum k (λ q. pixels_in (group_at C (left r members) q))
  groups-have-all = pixels-by-groups C k (λ i. get_or members i 0) member_below

  -- the distances are at most one for each shade, colour and round
  pub distances-at-most : Joined C k a → r.distances ≤ r.rounds * (C.n * k)
  distances-at-most joined =
      rw (ap (λ (x : Ran). x.distances) answer-is, rounds-made)
      (sum_bound _ (C.n * k) (λ n. short_distances C k (after rule C k a n))
      (λ n l. le_trans
      (short-at-most-plain C k (after rule C k a n) (after-joined rule C k a m.good m.fair m.fit joined n))
      (sum_bound C.n k (λ i. k) (λ i l. le_refl k))))

  -- the shades are on the grid, and there are so many of them
  pub shades-fit : OnGrid r.shades × (3 * k ≤ length r.shades)
  shades-fit =
      let f = (fit_at (rounds_made limit (quiet rule C k a))).shades in
      rw (ap (λ (x : Ran). x.shades) answer-is) (f.low, f.room)

  -- ---- how large its numbers are

  -- the final total is at most all pixels times the greatest distance
  pub total-most : r.total ≤ most_pixels * most_distance
  total-most =
      let z = after rule C k a (rounds_made limit (quiet rule C k a)) in
      rw (ap (λ (x : Ran). x.total) answer-is)
      (spent-at-most C m.fair z.coordinates (fit_at (rounds_made limit (quiet rule C k a))).shades.low
      (λ i. get_or z.members i 0) C.n (le_refl C.n))

  -- and the distances are at most 64 for each entry of a full table in each round
  pub distances-most : Joined C k a → r.distances ≤ r.rounds * (most_entries * most_shades)
  distances-most joined =
      le_trans (distances-at-most joined)
      (mul-le-mul_left r.rounds (mul-le-mul m.fair.few m.fit.shades.few))

  -- ---- what stays

  -- a shade that the rule holds, where it began
  pub shade-held : (f : ℕ) → Holds f rule → (q : ℕ) → q < f → q < k → shade_at r.shades q ≡ shade_at a.coordinates q
  shade-held f held q below l =
      rw (ap (λ (x : Ran). x.shades) answer-is)
      (after-held rule C k a m.good m.fair m.fit f held q below l (rounds_made limit (quiet rule C k a)))

  -- coordinates past the shades
  pub shades-past : (i : ℕ) → 3 * k ≤ i → get_or r.shades i 0 ≡ get_or a.coordinates i 0
  shades-past i l =
      rw (ap (λ (x : Ran). x.shades) answer-is)
      (after-past rule C k a (rounds_made limit (quiet rule C k a)) i l)

  -- members past the used entries
  pub members_kept : (i : ℕ) → C.n ≤ i → get_or members i 0 ≡ get_or a.members i 0
  members_kept i l = rw m.meets.members_are (after_kept rule C k a (rounds_made limit (quiet rule C k a)) i l)

  -- totals past the rounds made
  pub totals-kept : (i : ℕ) → r.rounds ≤ i → get_or totals i 0 ≡ get_or ts i 0
  totals-kept i l =
      rw m.meets.totals_are
      (fill-kept (rounds_made limit (quiet rule C k a)) i (λ n. total_of C k (after rule C k a n)) ts
      (rw rounds-made at l))

  -- ---- the totals

  -- each round's total is recorded
  pub total-recorded : (n : ℕ) → n < r.rounds → get_or totals n 0 ≡ total_of C k (after rule C k a n)
  total-recorded n l =
      rw m.meets.totals_are
      (fill-at (rounds_made limit (quiet rule C k a)) n (λ n. total_of C k (after rule C k a n)) ts
      (rw rounds-made at l)
      (omega (arith, rounds-within, m.room)))

  -- the recorded totals never rise
  pub totals-never-rise : (n : ℕ) → n + 1 < r.rounds → get_or totals (n + 1) 0 ≤ get_or totals n 0
  totals-never-rise n l =
      omega (
        arith,
        total-recorded n (omega arith),
        total-recorded (n + 1) l,
        rounds-fall rule C k a m.good m.fair m.fit n,
      )

  -- and the final total is not above the last
  pub final-at-most-last : r.total ≤ get_or totals (r.rounds - 1) 0
  final-at-most-last =
      omega (
        arith,
        total-last,
        ap (final_of C) (after_more rule C k a (r.rounds - 1)),
        rounds-within,
        total-recorded (r.rounds - 1) (omega (arith, rounds-within)),
        rounds-end rule C k a m.good m.fair m.fit (r.rounds - 1),
      )
