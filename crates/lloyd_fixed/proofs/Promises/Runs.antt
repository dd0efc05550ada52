-- What is shown of an accepted run with fixed shades: each theorem in full, under a sentence that says it.
-- `AcceptedFixed .. r members totals` says that r, members and totals are what it answers and leaves; the list of fixed
-- shades is one of bytes, as every lent one is. All are laws of a run that is made, by whatever rule, from whatever
-- given shades (lloyd's Made and Ends): document 01's run is their case of no fixed shade.
use Prim.Native.Nat.{ℕ, ◌+◌, ◌-◌, ◌*◌, ◌≤◌, ◌<◌}
use mathlib.Core.Bool.{true, false}
use mathlib.Core.List.{List}
use mathlib.Core.Path.{◌≡◌, sym, ◌∙◌}
use native.Mathlib.Omega.{arith}
use lib.ListN.{get_or, length}
use lib.Dec.{eqb}
use Rattle.std.specs.Prelude.{None}
use Rattle.std.specs.Result.{result_err}
use Rattle.number.specs.{sum, sum_of}
use Rattle.table_test.specs.{Record}
use Rattle.colour.specs.{Point, Bytes, distance, sixteenth}
use Rattle.shades.specs.{shade_at, colour_at, nearest_shade, same_place, OnGrid}
use Rattle.method.specs.{
  Bounded,
  SumBounded,
  From,
  colours_of,
  pixels_in,
  mean_of,
  group_in,
  group_at,
  group_cost,
  to_mean,
  moved_to,
  after,
  moved_of,
  total_of,
  listed,
  least_sum,
}
use Rattle.method.proofs.Begins.{begin-past, begin-kept}
use Rattle.method.proofs.Costs.{to-mean-means}
use Rattle.method.proofs.Falls.{held-not-moved}
use Rattle.method.proofs.Rules.{holding-holds, holding-free, holding-means}
use Rattle.lloyd_tests.specs.{limit_of}
use Rattle.lloyd.specs.{Ran, FarthestColour, made_run, left}
use Rattle.lloyd.proofs.Ends as ends
use Rattle.lloyd.proofs.Made as made
use Rattle.lloyd_stock.specs.{fixed_in, stock}
use Rattle.lloyd_fixed.specs.Outcomes.{AcceptedFixed, fixed_rule, fixed_start, fixed_run}
use Rattle.lloyd_fixed.proofs.Accepted as accepted
use Rattle.lloyd_fixed.proofs.Accepted.{fixed-tests, fixed-making}
use Rattle.lloyd_fixed.proofs.Wholes as wholes

-- ---- every accepted one

-- An accepted one makes rounds of Lloyd's rule with the fixed shades held, from the starting shades that begin with
-- them, with every colour in shade 0.
pub fixed-accepted : (rec : Record) (ks ws fixed : List ℕ) (k limit : ℕ) (ms ts : List ℕ)
    → result_err (fixed_run rec ks ws fixed k limit ms ts).answer ≡ None
    → fixed_run rec ks ws fixed k limit ms ts
    ≡ made_run (fixed_rule fixed) (colours_of rec.used ks ws) k (limit_of limit) (fixed_start rec ks ws fixed k ms) ts
fixed-accepted rec ks ws fixed k limit ms ts = (wholes.fixed-refuses rec ks ws fixed k limit ms ts).accepted_is

module _ {rec : Record} {ks ws fixed : List ℕ} {k limit : ℕ} {ms ts : List ℕ} {r : Ran} {members totals : List ℕ}
    (h : AcceptedFixed rec ks ws fixed k limit ms ts r members totals) where
  -- ---- where it begins

  -- Each fixed shade begins where it was handed in, in sixteenths, with its number.
  pub fixed-begins : (q : ℕ) → q < fixed_in fixed
      → shade_at (fixed_start rec ks ws fixed k ms).coordinates q ≡ shade_at (stock fixed) q
  fixed-begins = accepted.start-is-fixed (fixed-tests h)

  -- Each next shade begins on the table colour whose distance to its nearest shade before it, fixed or free, is
  -- greatest; every colour with a lower key is strictly nearer.
  pub free-is-farthest : (q : ℕ) → fixed_in fixed ≤ q → q < k
      → FarthestColour rec.used ks (fixed_start rec ks ws fixed k ms).coordinates q
      (shade_at (fixed_start rec ks ws fixed k ms).coordinates q)
  free-is-farthest = accepted.start-is-farthest (fixed-tests h)

  -- It stands where no shade before it does: the free starts are distinct colours unlike the fixed shades.
  pub free-starts-differ : (p q : ℕ) → p < q → fixed_in fixed ≤ q → q < k
      → ¬ (shade_at (fixed_start rec ks ws fixed k ms).coordinates p
      ≡ shade_at (fixed_start rec ks ws fixed k ms).coordinates q)
  free-starts-differ = accepted.starts-differ (fixed-tests h)

  module _ (bytes : Bytes fixed) where
    -- ---- the fixed shades

    -- The fixed shades stand in the answer as they were handed in, in front, times 16.
    pub fixed-stand : (i : ℕ) → i < length fixed → get_or r.shades i 0 ≡ sixteenth (get_or fixed i 0)
    fixed-stand = accepted.coordinate-is-fixed h bytes

    -- No round moves one.
    pub fixed-never-move : (n q : ℕ) → q < fixed_in fixed
        → (let a = after (fixed_rule fixed) (colours_of rec.used ks ws) k (fixed_start rec ks ws fixed k ms) in
        shade_at (a (n + 1)).coordinates q ≡ shade_at (a n).coordinates q)
    fixed-never-move n q l =
        made.moves-by-rule (fixed-making h bytes) n q (omega (arith, accepted.fewer-fixed (fixed-tests h)))
        ∙ (holding-holds (fixed_in fixed) to_mean).holds q _ _ l

    -- And none counts one as moved.
    pub fixed-never-counted : (n q : ℕ) → q < fixed_in fixed
        → (let a = after (fixed_rule fixed) (colours_of rec.used ks ws) k (fixed_start rec ks ws fixed k ms) n in
        same_place (moved_to (fixed_rule fixed) (colours_of rec.used ks ws) k a q) (shade_at a.coordinates q) ≡ true)
    fixed-never-counted n =
        held-not-moved (fixed_rule fixed) (colours_of rec.used ks ws) k
        (after (fixed_rule fixed) (colours_of rec.used ks ws) k (fixed_start rec ks ws fixed k ms) n) (fixed_in fixed)
        (holding-holds (fixed_in fixed) to_mean)

    -- A free shade moves by Lloyd's rule.
    pub free-moves : (n q : ℕ) → fixed_in fixed ≤ q → q < k
        → (let a = after (fixed_rule fixed) (colours_of rec.used ks ws) k (fixed_start rec ks ws fixed k ms) in
        shade_at (a (n + 1)).coordinates q
        ≡ to_mean q (group_in (colours_of rec.used ks ws) k (a n) q) (shade_at (a n).coordinates q))
    free-moves n q free l =
        made.moves-by-rule (fixed-making h bytes) n q l ∙ holding-free (fixed_in fixed) to_mean q _ _ free

    -- ---- its rounds and their totals

    -- At least one round is made, and at most as many as the limit.
    pub fixed-rounds-within : (0 < r.rounds) × (r.rounds ≤ limit_of limit)
    fixed-rounds-within = made.rounds-within (fixed-making h bytes)

    -- It is settled exactly where its last round moves no shade.
    pub fixed-settled-is : r.settled
        ≡ eqb (moved_of (fixed_rule fixed) (colours_of rec.used ks ws) k
        (after (fixed_rule fixed) (colours_of rec.used ks ws) k (fixed_start rec ks ws fixed k ms) (r.rounds - 1))) 0
    fixed-settled-is = made.settled_is (fixed-making h bytes)

    -- Every round before the last moves a shade.
    pub fixed-moved-before : (n : ℕ) → n + 1 < r.rounds
        → eqb (moved_of (fixed_rule fixed) (colours_of rec.used ks ws) k
        (after (fixed_rule fixed) (colours_of rec.used ks ws) k (fixed_start rec ks ws fixed k ms) n)) 0
        ≡ false
    fixed-moved-before = made.moved_before (fixed-making h bytes)

    -- The recorded total of each round is that of the method, over all groups, against the shades as they stood before
    -- its move.
    pub fixed-total-recorded : (n : ℕ) → n < r.rounds
        → get_or totals n 0
        ≡ total_of (colours_of rec.used ks ws) k
        (after (fixed_rule fixed) (colours_of rec.used ks ws) k (fixed_start rec ks ws fixed k ms) n)
    fixed-total-recorded = made.total-recorded (fixed-making h bytes)

    -- The recorded totals never rise.
    pub fixed-totals-never-rise : (n : ℕ) → n + 1 < r.rounds → get_or totals (n + 1) 0 ≤ get_or totals n 0
    fixed-totals-never-rise = made.totals-never-rise (fixed-making h bytes)

    -- The final total is not above the last recorded one.
    pub fixed-final-at-most-last : r.total ≤ get_or totals (r.rounds - 1) 0
    fixed-final-at-most-last = made.final-at-most-last (fixed-making h bytes)

    -- The final total is the sum over the shades of what each costs its group.
    pub fixed-total-is-groups : r.total ≡ sum k (group_cost (colours_of rec.used ks ws) (left r members))
    fixed-total-is-groups = made.total-is-groups (fixed-making h bytes)

    -- The summed distances are at most one for each shade, used entry and round.
    pub fixed-distances-at-most : r.distances ≤ r.rounds * (rec.used * k)
    fixed-distances-at-most = made.distances-at-most (fixed-making h bytes) (accepted.joined (fixed-tests h))

    -- ---- its last grouping, over the free shades

    -- For the last round's grouping, with the fixed shades where they are, no other free shades, with any whole
    -- coordinates, give a smaller total.
    pub free-final-is-least : (s : ℕ → Point) → ((q : ℕ) → q < fixed_in fixed → s q ≡ shade_at (stock fixed) q)
        → r.total ≤ sum rec.used (λ i. get_or ws i 0 * distance (colour_at ks i) (s (get_or members i 0)))
    free-final-is-least s fixed-there =
        ends.final-is-least (fixed-making h bytes) (fixed_in fixed) (holding-means (fixed_in fixed) to-mean-means) s
        (λ q l. fixed-there q l ∙ sym (accepted.shade-is-fixed h bytes q l))

    -- Group by group over the free shades, times 4W: the cost is never below the least that fractional shades could
    -- give this grouping, and above it by at most three quarters of a squared sixteenth a pixel; an empty group costs
    -- nothing.
    pub free-group-bounded : (q : ℕ) → fixed_in fixed ≤ q
        → Bounded (group_at (colours_of rec.used ks ws) (left r members) q)
        (group_cost (colours_of rec.used ks ws) (left r members) q)
    free-group-bounded =
        ends.group-bounded (fixed-making h bytes) (fixed_in fixed) (holding-means (fixed_in fixed) to-mean-means)

    -- The same in sum, over any list of free shades, the leasts added up as a fraction.
    pub free-groups-bounded : (qs : List ℕ) → From (fixed_in fixed) qs
        → SumBounded (least_sum (group_at (colours_of rec.used ks ws) (left r members)) qs)
        (sum_of (λ q. pixels_in (group_at (colours_of rec.used ks ws) (left r members) q)) qs)
        (sum_of (group_cost (colours_of rec.used ks ws) (left r members)) qs)
    free-groups-bounded =
        ends.groups-bounded (fixed-making h bytes) (fixed_in fixed) (holding-means (fixed_in fixed) to-mean-means)

    -- Each free shade with a group stands on the rounded mean of its group.
    pub free-stands-on-mean : (q : ℕ) → fixed_in fixed ≤ q → q < k
        → 0 < pixels_in (group_at (colours_of rec.used ks ws) (left r members) q)
        → shade_at r.shades q ≡ mean_of (group_at (colours_of rec.used ks ws) (left r members) q)
    free-stands-on-mean =
        ends.stands-on-mean (fixed-making h bytes) (fixed_in fixed) (holding-means (fixed_in fixed) to-mean-means)

    -- ---- the shades and members it leaves

    -- Every answered coordinate is on the grid.
    pub fixed-shades-low : OnGrid r.shades
    fixed-shades-low = (made.shades-fit (fixed-making h bytes)).0

    -- There are three for each shade asked for.
    pub fixed-shades-room : 3 * k ≤ length r.shades
    fixed-shades-room = (made.shades-fit (fixed-making h bytes)).1

    -- Answered shades past the count are zeros.
    pub fixed-shades-past : (i : ℕ) → 3 * k ≤ i → get_or r.shades i 0 ≡ 0
    fixed-shades-past i l =
        made.shades-past (fixed-making h bytes) i l
        ∙ begin-past (listed (stock fixed)) (colours_of rec.used ks ws) k ms i l

    -- Each used member is the number of a shade.
    pub fixed-member-below : (i : ℕ) → i < rec.used → get_or members i 0 < k
    fixed-member-below = made.member_below (fixed-making h bytes)

    -- Members past the used entries stay.
    pub fixed-members-kept : (i : ℕ) → rec.used ≤ i → get_or members i 0 ≡ get_or ms i 0
    fixed-members-kept i l =
        made.members_kept (fixed-making h bytes) i l
        ∙ begin-kept (listed (stock fixed)) (colours_of rec.used ks ws) k ms i l

    -- Totals past the rounds made stay.
    pub fixed-totals-kept : (i : ℕ) → r.rounds ≤ i → get_or totals i 0 ≡ get_or ts i 0
    fixed-totals-kept = made.totals-kept (fixed-making h bytes)

    -- ---- where it is settled

    -- Where it is settled, the final total is the last recorded one.
    pub fixed-settled-final : r.settled ≡ true → r.total ≡ get_or totals (r.rounds - 1) 0
    fixed-settled-final = ends.settled-final (fixed-making h bytes)

    -- And each used member is the nearest of the answered shades, the lowest number at a tie.
    pub fixed-settled-joined : r.settled ≡ true → (i : ℕ) → i < rec.used
        → get_or members i 0 ≡ nearest_shade r.shades k (colour_at ks i)
    fixed-settled-joined = ends.settled-joined (fixed-making h bytes)
