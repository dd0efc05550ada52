-- What is shown of runs: each theorem in full, under a sentence that says it.
-- `AcceptedRun .. r members totals` says that r, members and totals are what an accepted run answers and leaves; the
-- colours are those of the table, and the group of shade q has the colours whose member is q.
use Prim.Native.Nat.{ℕ, ◌+◌, ◌-◌, ◌*◌, ◌≤◌, ◌<◌}
use mathlib.Core.Bool.{true, false}
use mathlib.Core.List.{List}
use mathlib.Core.Path.{◌≡◌, ◌∙◌}
use native.Mathlib.Omega.{arith}
use lib.ListN.{get_or, length}
use lib.Dec.{eqb}
use Rattle.std.specs.Prelude.{None}
use Rattle.std.specs.Result.{result_err}
use Rattle.number.specs.{sum, sum_of, numbers_below}
use Rattle.table_test.specs.{Record}
use Rattle.colour.specs.{Point, distance, most_pixels, most_distance}
use Rattle.table_entries.specs.{most_entries}
use Rattle.shades.specs.{most_shades, shade_at, colour_at, nearest_shade, OnGrid}
use Rattle.method.specs.{
  Bounded,
  SumBounded,
  colours_of,
  pixels_in,
  sums_of,
  least_of,
  cost_at,
  mean_of,
  drawn,
  group_at,
  group_cost,
  to_mean,
  after,
  moved_of,
  total_of,
  on_mean,
  begin,
  least_sum,
  SignedPoint,
  as_signed,
  fraction_cost,
}
use Rattle.method.proofs.Begins.{begin-past, begin-kept}
use Rattle.method.proofs.Bounds.{from_zero_lem}
use Rattle.method.proofs.Costs.{to-mean-means}
use Rattle.method.proofs.Promises.{
  fraction-at-least,
  fraction-exactly,
  signed-fraction-at-least,
  signed-fraction-exactly,
}
use Rattle.starts.specs.{mean_by_sums}
use Rattle.lloyd_tests.specs.{limit_of}
use Rattle.lloyd.specs.Beginning.{FarthestColour}
use Rattle.lloyd.specs.Outcomes.{AcceptedRun, run_of, made_run, left}
use Rattle.lloyd.specs.declared.Ran.{Ran}
use Rattle.lloyd.proofs.Accepted as accepted
use Rattle.lloyd.proofs.Accepted.{tests, making}
use Rattle.lloyd.proofs.Ends as ends
use Rattle.lloyd.proofs.Made as made
use Rattle.lloyd.proofs.Wholes as wholes

-- ---- every accepted run

-- An accepted run makes rounds of Lloyd's rule from the starting shades, with every colour in shade 0.
pub run-accepted : (rec : Record) (ks ws : List ℕ) (k limit : ℕ) (ms ts : List ℕ)
    → result_err (run_of rec ks ws k limit ms ts).answer ≡ None
    → run_of rec ks ws k limit ms ts
    ≡ made_run to_mean (colours_of rec.used ks ws) k (limit_of limit) (begin (colours_of rec.used ks ws) k ms) ts
run-accepted rec ks ws k limit ms ts = (wholes.run-refuses rec ks ws k limit ms ts).accepted_is

module _ {rec : Record} {ks ws : List ℕ} {k limit : ℕ} {ms ts : List ℕ} {r : Ran} {members totals : List ℕ}
    (h : AcceptedRun rec ks ws k limit ms ts r members totals) where
  -- ---- where it begins

  -- The run begins with shade 0 on the rounded mean of the whole table, weights counted.
  pub first-is-mean : shade_at (begin (colours_of rec.used ks ws) k ms).coordinates 0
      ≡ mean_of (colours_of rec.used ks ws)
  first-is-mean = accepted.first-is-mean (tests h)

  -- And that is read from the record: 16 times each channel's sum over the pixels, rounded.
  pub first-by-sums : shade_at (begin (colours_of rec.used ks ws) k ms).coordinates 0
      ≡ mean_by_sums rec.pixels rec.red rec.green rec.blue
  first-by-sums = accepted.first-by-sums (tests h)

  -- Each next shade begins on the table colour whose distance to its nearest shade before it, of those that the run
  -- begins with, is greatest; every colour with a lower key is strictly nearer.
  pub start-is-farthest : (q : ℕ) → q + 1 < k
      → FarthestColour rec.used ks (begin (colours_of rec.used ks ws) k ms).coordinates (q + 1)
      (shade_at (begin (colours_of rec.used ks ws) k ms).coordinates (q + 1))
  start-is-farthest = accepted.start-is-farthest (tests h)

  -- No starting shade is chosen twice: the run begins with k shades in k different places.
  pub starts-differ : (p q : ℕ) → p < q → q < k
      → ¬ (shade_at (begin (colours_of rec.used ks ws) k ms).coordinates p
      ≡ shade_at (begin (colours_of rec.used ks ws) k ms).coordinates q)
  starts-differ = accepted.starts-differ (tests h)

  -- ---- its rounds and their totals

  -- At least one round is made, and at most as many as the limit.
  pub rounds-within : (0 < r.rounds) × (r.rounds ≤ limit_of limit)
  rounds-within = made.rounds-within (making h)

  -- The run is settled exactly where its last round moves no shade.
  pub settled_is : r.settled
      ≡ eqb (moved_of to_mean (colours_of rec.used ks ws) k
      (after to_mean (colours_of rec.used ks ws) k (begin (colours_of rec.used ks ws) k ms) (r.rounds - 1))) 0
  settled_is = made.settled_is (making h)

  -- Every round before the last moves a shade.
  pub moved_before : (n : ℕ) → n + 1 < r.rounds
      → eqb (moved_of to_mean (colours_of rec.used ks ws) k
      (after to_mean (colours_of rec.used ks ws) k (begin (colours_of rec.used ks ws) k ms) n)) 0
      ≡ false
  moved_before = made.moved_before (making h)

  -- The recorded total of each round is that of the method, against the shades as they stood before its move.
  pub total-recorded : (n : ℕ) → n < r.rounds
      → get_or totals n 0
      ≡ total_of (colours_of rec.used ks ws) k
      (after to_mean (colours_of rec.used ks ws) k (begin (colours_of rec.used ks ws) k ms) n)
  total-recorded = made.total-recorded (making h)

  -- The recorded totals never rise.
  pub totals-never-rise : (n : ℕ) → n + 1 < r.rounds → get_or totals (n + 1) 0 ≤ get_or totals n 0
  totals-never-rise = made.totals-never-rise (making h)

  -- The summed distances are at most one for each shade, used entry and round.
  pub distances-at-most : r.distances ≤ r.rounds * (rec.used * k)
  distances-at-most = made.distances-at-most (making h) (accepted.joined (tests h))

  -- ---- its final total

  -- The final total is not above the last recorded one.
  pub final-at-most-last : r.total ≤ get_or totals (r.rounds - 1) 0
  final-at-most-last = made.final-at-most-last (making h)

  -- For the last round's grouping no other shades, with any whole coordinates, give a smaller total.
  pub final-is-least : (s : ℕ → Point)
      → r.total ≤ sum rec.used (λ i. get_or ws i 0 * distance (colour_at ks i) (s (get_or members i 0)))
  final-is-least s = ends.final-is-least (making h) 0 to-mean-means s (λ q l. absurd (omega arith))

  -- The final total is the sum over the shades of what each costs its group.
  pub total-is-groups : r.total ≡ sum k (group_cost (colours_of rec.used ks ws) (left r members))
  total-is-groups = made.total-is-groups (making h)

  -- Group by group, times 4W: the cost is never below the least that fractional shades could give this grouping, and
  -- above it by at most three quarters of a squared sixteenth a pixel; an empty group costs nothing.
  pub group-bounded : (q : ℕ)
      → Bounded (group_at (colours_of rec.used ks ws) (left r members) q)
      (group_cost (colours_of rec.used ks ws) (left r members) q)
  group-bounded q = ends.group-bounded (making h) 0 to-mean-means q (omega arith)

  -- The same in sum, over any list of groups, the leasts added up as a fraction.
  pub groups-bounded : (qs : List ℕ)
      → SumBounded (least_sum (group_at (colours_of rec.used ks ws) (left r members)) qs)
      (sum_of (λ q. pixels_in (group_at (colours_of rec.used ks ws) (left r members) q)) qs)
      (sum_of (group_cost (colours_of rec.used ks ws) (left r members)) qs)
  groups-bounded qs = ends.groups-bounded (making h) 0 to-mean-means qs (from_zero_lem qs)

  -- In one line, over all groups: the final total is never below what fractional shades could give this grouping, and
  -- above it by at most three quarters of a squared sixteenth for each of the record's pixels.
  pub total-bounded : SumBounded
      (least_sum (group_at (colours_of rec.used ks ws) (left r members)) (numbers_below k)) rec.pixels r.total
  total-bounded = rw (accepted.pixels_are (tests h)) (ends.total-bounded (making h) to-mean-means)

  -- The groups' pixels add up to the record's.
  pub groups-have-all : rec.pixels
      ≡ sum k (λ q. pixels_in (group_at (colours_of rec.used ks ws) (left r members) q))
  groups-have-all = accepted.pixels_are (tests h) ∙ made.groups-have-all (making h)

  -- That this is the least: a shade at a / n costs the group no less; both sides stand here times W and n².
  pub group-fraction-at-least : (q n : ℕ) (a : Point)
      → n * n * least_of (group_at (colours_of rec.used ks ws) (left r members) q)
      ≤ pixels_in (group_at (colours_of rec.used ks ws) (left r members) q)
      * cost_at (drawn n (group_at (colours_of rec.used ks ws) (left r members) q)) a
  group-fraction-at-least q n a = fraction-at-least (group_at (colours_of rec.used ks ws) (left r members) q) n a

  -- And it is attained, where n is W and each a is its S.
  pub group-fraction-exactly : (q : ℕ)
      → (let G = group_at (colours_of rec.used ks ws) (left r members) q in
      pixels_in G * cost_at (drawn (pixels_in G) G) (sums_of G) ≡ pixels_in G * pixels_in G * least_of G)
  group-fraction-exactly q = fraction-exactly (group_at (colours_of rec.used ks ws) (left r members) q)

  -- The same for whole numbers a1, a2, a3 of either sign: wherever a fractional shade stands, also below 0, it costs
  -- the group no less.
  pub group-signed-fraction-at-least : (q n : ℕ) (a : SignedPoint)
      → n * n * least_of (group_at (colours_of rec.used ks ws) (left r members) q)
      ≤ pixels_in (group_at (colours_of rec.used ks ws) (left r members) q)
      * fraction_cost (group_at (colours_of rec.used ks ws) (left r members) q) n a
  group-signed-fraction-at-least q = signed-fraction-at-least (group_at (colours_of rec.used ks ws) (left r members) q)

  -- And it is attained, where n is W and each a is its S.
  pub group-signed-fraction-exactly : (q : ℕ)
      → (let G = group_at (colours_of rec.used ks ws) (left r members) q in
      pixels_in G * fraction_cost G (pixels_in G) (as_signed (sums_of G)) ≡ pixels_in G * pixels_in G * least_of G)
  group-signed-fraction-exactly q = signed-fraction-exactly (group_at (colours_of rec.used ks ws) (left r members) q)

  -- ---- the shades and members it leaves

  -- Each shade with a group stands on the rounded mean of its group.
  pub stands-on-mean : (q : ℕ) → q < k → 0 < pixels_in (group_at (colours_of rec.used ks ws) (left r members) q)
      → shade_at r.shades q ≡ mean_of (group_at (colours_of rec.used ks ws) (left r members) q)
  stands-on-mean q = ends.stands-on-mean (making h) 0 to-mean-means q (omega arith)

  -- Every answered coordinate is on the grid.
  pub shades-low : OnGrid r.shades
  shades-low = (made.shades-fit (making h)).0

  -- There are three for each shade asked for.
  pub shades-room : 3 * k ≤ length r.shades
  shades-room = (made.shades-fit (making h)).1

  -- Answered shades past the count are zeros.
  pub shades-past : (i : ℕ) → 3 * k ≤ i → get_or r.shades i 0 ≡ 0
  shades-past i l =
      made.shades-past (making h) i l
      ∙ begin-past (on_mean (colours_of rec.used ks ws)) (colours_of rec.used ks ws) k ms i l

  -- Each used member is the number of a shade.
  pub member_below : (i : ℕ) → i < rec.used → get_or members i 0 < k
  member_below = made.member_below (making h)

  -- Members past the used entries stay.
  pub members_kept : (i : ℕ) → rec.used ≤ i → get_or members i 0 ≡ get_or ms i 0
  members_kept i l =
      made.members_kept (making h) i l
      ∙ begin-kept (on_mean (colours_of rec.used ks ws)) (colours_of rec.used ks ws) k ms i l

  -- Totals past the rounds made stay.
  pub totals-kept : (i : ℕ) → r.rounds ≤ i → get_or totals i 0 ≡ get_or ts i 0
  totals-kept = made.totals-kept (making h)

  -- ---- how large its numbers are

  -- The final total is at most the most pixels times the greatest distance.
  pub total-most : r.total ≤ most_pixels * most_distance
  total-most = made.total-most (making h)

  -- Each round works out at most 64 distances for each entry of a full table.
  pub distances-most : r.distances ≤ r.rounds * (most_entries * most_shades)
  distances-most = made.distances-most (making h) (accepted.joined (tests h))

  -- ---- where it is settled

  -- Where the run is settled, the final total is the last recorded one.
  pub settled-final : r.settled ≡ true → r.total ≡ get_or totals (r.rounds - 1) 0
  settled-final = ends.settled-final (making h)

  -- And each used member is the nearest of the answered shades, the lowest number at a tie.
  pub settled-joined : r.settled ≡ true → (i : ℕ) → i < rec.used
      → get_or members i 0 ≡ nearest_shade r.shades k (colour_at ks i)
  settled-joined = ends.settled-joined (making h)
