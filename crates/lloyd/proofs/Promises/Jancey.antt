-- What is shown of Jancey's run: each theorem in full, under a sentence that says it. It is refused, begins, counts and
-- ends as a run does; its shades step past the mean, and its totals never rise. `AcceptedJancey .. r members totals`
-- says that r, members and totals are what an accepted Jancey run answers and leaves.
-- That no other shades give the last grouping a smaller total, and the bound by three quarters a pixel, are said of a
-- run by Lloyd's rule alone.
use Prim.Native.Nat.{ℕ, ◌+◌, ◌-◌, ◌*◌, ◌≤◌, ◌<◌}
use mathlib.Core.Bool.{true, false}
use mathlib.Core.List.{List}
use mathlib.Core.Logic.{◌↔◌}
use mathlib.Core.Path.{◌≡◌, refl, sym, ◌∙◌}
use native.Mathlib.Omega.{arith}
use lib.ListN.{get_or, length}
use lib.Dec.{eqb}
use Rattle.number.specs.{sum, Leaps}
use Rattle.std.specs.Prelude.{Result, None, Some}
use Rattle.std.specs.Result.{result_err}
use Rattle.refusal.specs.{Refusal, Given, NoneHolds}
use Rattle.table_test.specs.{Record, room_of, bad_table}
use Rattle.colour.specs.{most_coordinate}
use Rattle.shades.specs.{shade_at, axis, colour_at, nearest_shade, OnGrid}
use Rattle.method.specs.{
  most_rounds,
  colours_of,
  pixels_in,
  sums_of,
  mean_of,
  group_in,
  group_at,
  group_cost,
  leap_to,
  after,
  moved_of,
  total_of,
  on_mean,
  begin,
}
use Rattle.method.proofs.Begins.{begin-past, begin-kept}
use Rattle.method.proofs.Rules.{kind-goes, leap-to-good, leap-to-rests, leap-to-steps, leap-to-stays}
use Rattle.starts.specs.{mean_by_sums}
use Rattle.lloyd_tests.specs.{usual_limit, limit_of}
use Rattle.lloyd_refusal.specs.{run_rows}
use Rattle.lloyd.specs.Beginning.{FarthestColour}
use Rattle.lloyd.specs.Outcomes.{RunMeets, AcceptedJancey, run_of, jancey_run, made_run, kept_run, left}
use Rattle.lloyd.specs.declared.Ran.{Ran}
use Rattle.lloyd.proofs.Accepted as accepted
use Rattle.lloyd.proofs.Accepted.{by-leaps, jancey-tests, jancey-making}
use Rattle.lloyd.proofs.Ends as ends
use Rattle.lloyd.proofs.Limits as limits
use Rattle.lloyd.proofs.Made as made
use Rattle.lloyd.proofs.Used as used
use Rattle.lloyd.proofs.Wholes as wholes

-- ---- refusals

-- Jancey's run gives each refusal exactly when its row is the first of 2, 4, 5, 6, 7 that holds.
pub jancey-refused-exactly : (rec : Record) (ks ws : List ℕ) (k limit : ℕ) (ms ts : List ℕ) (n : Refusal)
    → (result_err (jancey_run rec ks ws k limit ms ts).answer ≡ Some n) ↔ Given (run_rows rec ks ws k limit ms ts) n
jancey-refused-exactly rec ks ws k limit ms ts = (wholes.jancey-refuses rec ks ws k limit ms ts).refused_exactly

-- And none exactly when no row holds.
pub jancey-accepted-exactly : (rec : Record) (ks ws : List ℕ) (k limit : ℕ) (ms ts : List ℕ)
    → (result_err (jancey_run rec ks ws k limit ms ts).answer ≡ None) ↔ NoneHolds (run_rows rec ks ws k limit ms ts)
jancey-accepted-exactly rec ks ws k limit ms ts = (wholes.jancey-refuses rec ks ws k limit ms ts).accepted_exactly

-- A refused one answers its error, and no slice changes.
pub jancey-refused : (rec : Record) (ks ws : List ℕ) (k limit : ℕ) (ms ts : List ℕ) (n : Refusal)
    → result_err (jancey_run rec ks ws k limit ms ts).answer ≡ Some n
    → jancey_run rec ks ws k limit ms ts ≡ kept_run ms ts n
jancey-refused rec ks ws k limit ms ts = (wholes.jancey-refuses rec ks ws k limit ms ts).refused_is

-- On every input it has the refusal that a run has, or none where a run has none.
pub jancey-refused-as-run : (rec : Record) (ks ws : List ℕ) (k limit : ℕ) (ms ts : List ℕ)
    → result_err (jancey_run rec ks ws k limit ms ts).answer ≡ result_err (run_of rec ks ws k limit ms ts).answer
jancey-refused-as-run = wholes.same-refusal

-- ---- the contract

-- Whatever meets the contract of `run_jancey` on an input has one answer and one content of each lent slice.
pub jancey-only : (rec : Record) (ks ws : List ℕ) (k limit : ℕ) (ms ts : List ℕ) {r r' : Result Ran Refusal}
    {x x' t t' : List ℕ}
    → RunMeets (jancey_run rec ks ws k limit ms ts) r x t → RunMeets (jancey_run rec ks ws k limit ms ts) r' x' t'
    → (r ≡ r') × (x ≡ x') × (t ≡ t')
jancey-only rec ks ws k limit ms ts a b =
    (a.answer ∙ sym b.answer, a.members_are ∙ sym b.members_are, a.totals_are ∙ sym b.totals_are)

-- With limit 0 it is the one with limit 100.
pub jancey-of-usual : (rec : Record) (ks ws : List ℕ) (k : ℕ) (ms ts : List ℕ)
    → jancey_run rec ks ws k 0 ms ts ≡ jancey_run rec ks ws k usual_limit ms ts
unfolding jancey_run
jancey-of-usual rec ks ws k ms ts = refl

-- A settled one is the same with any other limit that is not below the rounds it made and whose totals are lent.
pub jancey-settled-at-any-limit : {rec : Record} {ks ws : List ℕ} {k limit : ℕ} {ms ts : List ℕ} {r : Ran}
    {members totals : List ℕ} → AcceptedJancey rec ks ws k limit ms ts r members totals → r.settled ≡ true
    → (other : ℕ) → r.rounds ≤ limit_of other → other ≤ most_rounds → limit_of other ≤ length ts
    → jancey_run rec ks ws k other ms ts ≡ jancey_run rec ks ws k limit ms ts
unfolding jancey_run
jancey-settled-at-any-limit {rec} {ks} {ws} {k} {limit} {ms} {ts} h =
    limits.settled-at-any-limit leap_to leap-to-good rec ks ws k limit ms ts (by-leaps h)

-- It depends on the used entries alone.
pub jancey-of-used : (rec : Record) (ks ws ks' ws' : List ℕ) (k limit : ℕ) (ms ts : List ℕ)
    → rec.used ≤ room_of ks ws → rec.used ≤ room_of ks' ws'
    → ((i : ℕ) → i < rec.used → get_or ks i 0 ≡ get_or ks' i 0)
    → ((i : ℕ) → i < rec.used → get_or ws i 0 ≡ get_or ws' i 0)
    → jancey_run rec ks ws k limit ms ts ≡ jancey_run rec ks' ws' k limit ms ts
unfolding jancey_run
jancey-of-used = used.run-of-used leap_to (kind-goes true)

-- And of the record on how many they are and on whether it is true.
pub jancey-by-truth : (rec rec' : Record) (ks ws : List ℕ) (k limit : ℕ) (ms ts : List ℕ) → rec.used ≡ rec'.used
    → bad_table rec ks ws ≡ bad_table rec' ks ws
    → jancey_run rec ks ws k limit ms ts ≡ jancey_run rec' ks ws k limit ms ts
unfolding jancey_run
jancey-by-truth = used.run-by-truth leap_to

-- ---- every accepted one

-- An accepted Jancey run makes rounds of Jancey's rule from the starting shades of a run, with every colour in shade 0.
pub jancey-accepted : (rec : Record) (ks ws : List ℕ) (k limit : ℕ) (ms ts : List ℕ)
    → result_err (jancey_run rec ks ws k limit ms ts).answer ≡ None
    → jancey_run rec ks ws k limit ms ts
    ≡ made_run leap_to (colours_of rec.used ks ws) k (limit_of limit) (begin (colours_of rec.used ks ws) k ms) ts
jancey-accepted rec ks ws k limit ms ts = (wholes.jancey-refuses rec ks ws k limit ms ts).accepted_is

module _ {rec : Record} {ks ws : List ℕ} {k limit : ℕ} {ms ts : List ℕ} {r : Ran} {members totals : List ℕ}
    (h : AcceptedJancey rec ks ws k limit ms ts r members totals) where
  -- ---- where it begins

  -- Shade 0 begins on the rounded mean of the whole table, weights counted.
  pub jancey-first-is-mean : shade_at (begin (colours_of rec.used ks ws) k ms).coordinates 0
      ≡ mean_of (colours_of rec.used ks ws)
  jancey-first-is-mean = accepted.first-is-mean (jancey-tests h)

  -- And that is read from the record's channel sums.
  pub jancey-first-by-sums : shade_at (begin (colours_of rec.used ks ws) k ms).coordinates 0
      ≡ mean_by_sums rec.pixels rec.red rec.green rec.blue
  jancey-first-by-sums = accepted.first-by-sums (jancey-tests h)

  -- Each next shade begins on the table colour whose distance to its nearest shade before it is greatest; every colour
  -- with a lower key is strictly nearer.
  pub jancey-start-is-farthest : (q : ℕ) → q + 1 < k
      → FarthestColour rec.used ks (begin (colours_of rec.used ks ws) k ms).coordinates (q + 1)
      (shade_at (begin (colours_of rec.used ks ws) k ms).coordinates (q + 1))
  jancey-start-is-farthest = accepted.start-is-farthest (jancey-tests h)

  -- It begins with k shades in k different places.
  pub jancey-starts-differ : (p q : ℕ) → p < q → q < k
      → ¬ (shade_at (begin (colours_of rec.used ks ws) k ms).coordinates p
      ≡ shade_at (begin (colours_of rec.used ks ws) k ms).coordinates q)
  jancey-starts-differ = accepted.starts-differ (jancey-tests h)

  -- ---- its steps

  -- In each round a shade with a group makes Jancey's step on each coordinate: to old + 9/5 × (mean - old) with the
  -- exact mean, rounded to the nearest sixteenth, a half going up, held to 0 and 4080; where that lies as far from the
  -- exact mean as the old value did, or farther, to the rounded mean. There is one such value only (`leap-only`).
  pub jancey-steps : (n q : ℕ) → q < k
      → (let a = after leap_to (colours_of rec.used ks ws) k (begin (colours_of rec.used ks ws) k ms) in
      let G = group_in (colours_of rec.used ks ws) k (a n) q in
      0 < pixels_in G → (e : ℕ)
      → Leaps most_coordinate (pixels_in G) (axis e (sums_of G)) (axis e (shade_at (a n).coordinates q))
      (axis e (shade_at (a (n + 1)).coordinates q)))
  jancey-steps n q l pos e =
      rw (made.moves-by-rule (jancey-making h) n q l) (leap-to-steps q _ _ pos e)

  -- And a shade with no group stays.
  pub jancey-stays : (n q : ℕ) → q < k
      → (let a = after leap_to (colours_of rec.used ks ws) k (begin (colours_of rec.used ks ws) k ms) in
      pixels_in (group_in (colours_of rec.used ks ws) k (a n) q) ≡ 0
      → shade_at (a (n + 1)).coordinates q ≡ shade_at (a n).coordinates q)
  jancey-stays n q l none = made.moves-by-rule (jancey-making h) n q l ∙ leap-to-stays q _ _ none

  -- ---- its rounds and their totals

  -- At least one round is made, and at most as many as the limit.
  pub jancey-rounds-within : (0 < r.rounds) × (r.rounds ≤ limit_of limit)
  jancey-rounds-within = made.rounds-within (jancey-making h)

  -- It is settled exactly where its last round moves no shade.
  pub jancey-settled-is : r.settled
      ≡ eqb (moved_of leap_to (colours_of rec.used ks ws) k
      (after leap_to (colours_of rec.used ks ws) k (begin (colours_of rec.used ks ws) k ms) (r.rounds - 1))) 0
  jancey-settled-is = made.settled_is (jancey-making h)

  -- Every round before the last moves a shade.
  pub jancey-moved-before : (n : ℕ) → n + 1 < r.rounds
      → eqb (moved_of leap_to (colours_of rec.used ks ws) k
      (after leap_to (colours_of rec.used ks ws) k (begin (colours_of rec.used ks ws) k ms) n)) 0
      ≡ false
  jancey-moved-before = made.moved_before (jancey-making h)

  -- The recorded total of each round is that of the method, against the shades as they stood before its move.
  pub jancey-total-recorded : (n : ℕ) → n < r.rounds
      → get_or totals n 0
      ≡ total_of (colours_of rec.used ks ws) k
      (after leap_to (colours_of rec.used ks ws) k (begin (colours_of rec.used ks ws) k ms) n)
  jancey-total-recorded = made.total-recorded (jancey-making h)

  -- The recorded totals never rise.
  pub jancey-totals-never-rise : (n : ℕ) → n + 1 < r.rounds → get_or totals (n + 1) 0 ≤ get_or totals n 0
  jancey-totals-never-rise = made.totals-never-rise (jancey-making h)

  -- The final total is not above the last recorded one.
  pub jancey-final-at-most-last : r.total ≤ get_or totals (r.rounds - 1) 0
  jancey-final-at-most-last = made.final-at-most-last (jancey-making h)

  -- The final total is the sum over the shades of what each costs its group.
  pub jancey-total-is-groups : r.total ≡ sum k (group_cost (colours_of rec.used ks ws) (left r members))
  jancey-total-is-groups = made.total-is-groups (jancey-making h)

  -- The summed distances are at most one for each shade, used entry and round.
  pub jancey-distances-at-most : r.distances ≤ r.rounds * (rec.used * k)
  jancey-distances-at-most = made.distances-at-most (jancey-making h) (accepted.joined (jancey-tests h))

  -- ---- the shades and members it leaves

  -- Every answered coordinate is on the grid.
  pub jancey-shades-low : OnGrid r.shades
  jancey-shades-low = (made.shades-fit (jancey-making h)).0

  -- There are three for each shade asked for.
  pub jancey-shades-room : 3 * k ≤ length r.shades
  jancey-shades-room = (made.shades-fit (jancey-making h)).1

  -- Answered shades past the count are zeros.
  pub jancey-shades-past : (i : ℕ) → 3 * k ≤ i → get_or r.shades i 0 ≡ 0
  jancey-shades-past i l =
      made.shades-past (jancey-making h) i l
      ∙ begin-past (on_mean (colours_of rec.used ks ws)) (colours_of rec.used ks ws) k ms i l

  -- Each used member is the number of a shade.
  pub jancey-member-below : (i : ℕ) → i < rec.used → get_or members i 0 < k
  jancey-member-below = made.member_below (jancey-making h)

  -- Members past the used entries stay.
  pub jancey-members-kept : (i : ℕ) → rec.used ≤ i → get_or members i 0 ≡ get_or ms i 0
  jancey-members-kept i l =
      made.members_kept (jancey-making h) i l
      ∙ begin-kept (on_mean (colours_of rec.used ks ws)) (colours_of rec.used ks ws) k ms i l

  -- Totals past the rounds made stay.
  pub jancey-totals-kept : (i : ℕ) → r.rounds ≤ i → get_or totals i 0 ≡ get_or ts i 0
  jancey-totals-kept = made.totals-kept (jancey-making h)

  -- ---- where it is settled

  -- Where it is settled, each shade with a group stands on the rounded mean of its group.
  pub jancey-settled-on-mean : r.settled ≡ true → (q : ℕ) → q < k
      → 0 < pixels_in (group_at (colours_of rec.used ks ws) (left r members) q)
      → shade_at r.shades q ≡ mean_of (group_at (colours_of rec.used ks ws) (left r members) q)
  jancey-settled-on-mean settled q =
      ends.settled-on-mean (jancey-making h) settled 0 leap-to-rests q (omega arith)

  -- The final total is then the last recorded one.
  pub jancey-settled-final : r.settled ≡ true → r.total ≡ get_or totals (r.rounds - 1) 0
  jancey-settled-final = ends.settled-final (jancey-making h)

  -- And each used member is the nearest of the answered shades, the lowest number at a tie.
  pub jancey-settled-joined : r.settled ≡ true → (i : ℕ) → i < rec.used
      → get_or members i 0 ≡ nearest_shade r.shades k (colour_at ks i)
  jancey-settled-joined = ends.settled-joined (jancey-making h)
