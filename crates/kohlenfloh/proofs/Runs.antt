-- What an accepted run leaves in the slices and arrays of the boundary: that of lloyd's run, its answer read from its
-- array, where the rounds stand at place 0 and the final total at place 3.
use Prim.Native.Nat.{ℕ, ◌+◌, ◌-◌, ◌*◌, ◌≤◌, ◌<◌}
use mathlib.Core.Bool.{Bool, true, false}
use mathlib.Core.List.{List}
use mathlib.Core.Path.{◌≡◌, refl, sym, ap, ◌∙◌}
use native.Mathlib.Omega.{arith}
use lib.ListN.{get_or, length, take}
use Rattle.number.specs.{sum, bit, W, S, Nearest}
use Rattle.refusal.specs.{number_in, done, Refusal}
use Rattle.std.specs.Prelude.{Result, Ok, Err}
use Rattle.std.specs.Result.{result_err}
use Rattle.refusal.proofs.Numbers.{number-not-done}
use Rattle.colour.specs.{Point, Bytes, distance, sixteenth}
use Rattle.shades.specs.{shade_at, colour_at}
use Rattle.method.specs.{Bounded, colours_of, pixels_in, mean_of, state_of, group_at, group_cost}
use Rattle.lloyd.specs.{Ran, RunOutcome, RunMeets, AcceptedRun, AcceptedJancey, run_of, jancey_run}
use Rattle.lloyd.proofs.Promises as lloyd
use Rattle.lloyd_stock.specs.{fixed_in, stock}
use Rattle.lloyd_fixed.specs.{AcceptedFixed, fixed_run}
use Rattle.lloyd_fixed.proofs.Promises as lloyd-fixed
use Rattle.palette_groups.specs.{channel_group, palette_from_groups, palette_from_groups_fixed}
use Rattle.palette_runs.proofs.Promises as palettes
use Rattle.palette_runs.proofs.Promises.{run-palette-accepted, run-byte-is-nearest}
use Rattle.arrays.specs.{record_in, run_numbers, run_shades}
use Rattle.kohlenfloh.specs.Crossing.{RunCrosses, PaletteCrosses}

-- a test that is told as 1 holds
bit-one : (b : Bool) → bit b ≡ 1 → b ≡ true
bit-one true h = refl
bit-one false h = absurd (omega arith)

-- what crosses where nothing is refused: an answer, its slices, and the arrays that it is laid into
record Crossed (o : RunOutcome) (members totals shades answer : List ℕ) : Type 0 where
  ran : Ran
  meets : RunMeets o (Ok ran) members totals
  shades_are : shades ≡ ran.shades
  answer_is : answer ≡ run_numbers (Ok ran)

-- that is what crosses with the number of none
crossed : {o : RunOutcome} {members totals shades answer : List ℕ} → RunCrosses o done members totals shades answer
    → Crossed o members totals shades answer
crossed {o} {members} {totals} {shades} {answer} h = go o.answer refl
  where
    go : (a : Result Ran Refusal) → o.answer ≡ a → Crossed o members totals shades answer
    go (Ok r) e = record {
      ran = r;
      meets = record { answer = sym e; members_are = h.members_are; totals_are = h.totals_are };
      shades_are = h.shades_are ∙ ap run_shades e;
      answer_is = h.answer_is ∙ ap run_numbers e;
    }
    go (Err n) e = absurd (number-not-done n (sym (h.number ∙ ap (λ a. number_in (result_err a)) e)))

-- ---- a run

module _ (s ks ws : List ℕ) (k limit : ℕ) (ms ts : List ℕ) {members totals shades answer : List ℕ}
    (h : RunCrosses (run_of (record_in s) ks ws k limit ms ts) done members totals shades answer) where
  -- the answer beneath
  abbrev ran : Ran
  ran = (crossed h).ran

  -- it is that of an accepted run
  accepted : AcceptedRun (record_in s) ks ws k limit ms ts ran members totals
  accepted = record { meets = (crossed h).meets }

  -- its rounds and its final total in the array
  rounds-at : get_or answer 0 0 ≡ ran.rounds
  rounds-at = ap (λ a. get_or a 0 0) (crossed h).answer_is

  total-at : get_or answer 3 0 ≡ ran.total
  total-at = ap (λ a. get_or a 3 0) (crossed h).answer_is

  -- the totals never rise
  pub totals-never-rise : (n : ℕ) → n + 1 < get_or answer 0 0 → get_or totals (n + 1) 0 ≤ get_or totals n 0
  totals-never-rise n l = lloyd.totals-never-rise accepted n (rw rounds-at at l)

  -- the final one is not above the last
  pub final-at-most-last : get_or answer 3 0 ≤ get_or totals (get_or answer 0 0 - 1) 0
  final-at-most-last = rw (total-at, rounds-at) (lloyd.final-at-most-last accepted)

  -- no other shades give the last grouping a smaller one
  pub final-is-least : (z : ℕ → Point)
      → get_or answer 3 0
      ≤ sum (record_in s).used (λ i. get_or ws i 0 * distance (colour_at ks i) (z (get_or members i 0)))
  final-is-least z = rw total-at (lloyd.final-is-least accepted z)

  -- each group's cost is bounded by its least
  pub group-bounded : (q : ℕ)
      → Bounded (group_at (colours_of (record_in s).used ks ws) (state_of shades members) q)
      (group_cost (colours_of (record_in s).used ks ws) (state_of shades members) q)
  group-bounded q = rw (crossed h).shades_are (lloyd.group-bounded accepted q)

  -- ---- its palette

  module _ (d : List ℕ) {r : ℕ} {x : List ℕ} (room : 3 * k ≤ length d)
      (p : PaletteCrosses (palette_from_groups (record_in s) ks ws (state_of (take (3 * k) shades) members) d) r x)
    where
      -- it is not refused
      pub palette-accepted : r ≡ done
      palette-accepted = p.number ∙ rw (crossed h).shades_are (ap number_in (run-palette-accepted accepted d room))

      -- a shade with a group has the levels nearest to its exact mean
      pub palette-is-nearest : (q e : ℕ) → q < k → e < 3
          → 0 < W (channel_group (record_in s) ks ws (state_of shades members) q e)
          → Nearest (W (channel_group (record_in s) ks ws (state_of shades members) q e))
          (S (channel_group (record_in s) ks ws (state_of shades members) q e)) (get_or x (3 * q + e) 0)
      palette-is-nearest q e few channel some =
          rw (p.palette_is, (crossed h).shades_are) (run-byte-is-nearest accepted d room q e few channel some)

-- ---- Jancey's run

module _ (s ks ws : List ℕ) (k limit : ℕ) (ms ts : List ℕ) {members totals shades answer : List ℕ}
    (h : RunCrosses (jancey_run (record_in s) ks ws k limit ms ts) done members totals shades answer) where
  -- the answer beneath
  abbrev leapt : Ran
  leapt = (crossed h).ran

  -- it is that of an accepted one
  accepted-leaps : AcceptedJancey (record_in s) ks ws k limit ms ts leapt members totals
  accepted-leaps = record { meets = (crossed h).meets }

  -- the totals never rise
  pub jancey-totals-never-rise : (n : ℕ) → n + 1 < get_or answer 0 0 → get_or totals (n + 1) 0 ≤ get_or totals n 0
  jancey-totals-never-rise n l =
      lloyd.jancey-totals-never-rise accepted-leaps n (rw (ap (λ a. get_or a 0 0) (crossed h).answer_is) at l)

  -- the final one is not above the last
  pub jancey-final-at-most-last : get_or answer 3 0 ≤ get_or totals (get_or answer 0 0 - 1) 0
  jancey-final-at-most-last = rw (crossed h).answer_is (lloyd.jancey-final-at-most-last accepted-leaps)

  -- a settled one leaves each shade with a group on its rounded mean
  pub jancey-settled-on-mean : get_or answer 1 0 ≡ 1 → (q : ℕ) → q < k
      → 0 < pixels_in (group_at (colours_of (record_in s).used ks ws) (state_of shades members) q)
      → shade_at shades q ≡ mean_of (group_at (colours_of (record_in s).used ks ws) (state_of shades members) q)
  jancey-settled-on-mean one q l =
      rw (crossed h).shades_are
      (lloyd.jancey-settled-on-mean accepted-leaps
      (bit-one leapt.settled (sym (ap (λ a. get_or a 1 0) (crossed h).answer_is) ∙ one)) q l)

  -- its palette is not refused
  pub jancey-palette-accepted : (d : List ℕ) {r : ℕ} {x : List ℕ} → 3 * k ≤ length d
      → PaletteCrosses (palette_from_groups (record_in s) ks ws (state_of (take (3 * k) shades) members) d) r x
      → r ≡ done
  jancey-palette-accepted d room p =
      p.number ∙ rw (crossed h).shades_are (ap number_in (palettes.jancey-palette-accepted accepted-leaps d room))

-- ---- a run with fixed shades

module _ (s ks ws fixed : List ℕ) (k limit : ℕ) (ms ts : List ℕ) {members totals shades answer : List ℕ}
    (h : RunCrosses (fixed_run (record_in s) ks ws fixed k limit ms ts) done members totals shades answer)
    (bytes : Bytes fixed) where
  -- the answer beneath
  abbrev held : Ran
  held = (crossed h).ran

  -- it is that of an accepted one
  accepted-fixed : AcceptedFixed (record_in s) ks ws fixed k limit ms ts held members totals
  accepted-fixed = record { meets = (crossed h).meets }

  -- its final total in the array
  held-total : get_or answer 3 0 ≡ held.total
  held-total = ap (λ a. get_or a 3 0) (crossed h).answer_is

  -- the fixed shades stand in front
  pub fixed-stand : (i : ℕ) → i < length fixed → get_or shades i 0 ≡ sixteenth (get_or fixed i 0)
  fixed-stand = rw (crossed h).shades_are (lloyd-fixed.fixed-stand accepted-fixed bytes)

  -- the totals never rise
  pub fixed-totals-never-rise : (n : ℕ) → n + 1 < get_or answer 0 0 → get_or totals (n + 1) 0 ≤ get_or totals n 0
  fixed-totals-never-rise n l =
      lloyd-fixed.fixed-totals-never-rise accepted-fixed bytes n
      (rw (ap (λ a. get_or a 0 0) (crossed h).answer_is) at l)

  -- the final one is not above the last
  pub fixed-final-at-most-last : get_or answer 3 0 ≤ get_or totals (get_or answer 0 0 - 1) 0
  fixed-final-at-most-last = rw (crossed h).answer_is (lloyd-fixed.fixed-final-at-most-last accepted-fixed bytes)

  -- no other free shades give the last grouping a smaller one
  pub free-final-is-least : (z : ℕ → Point) → ((q : ℕ) → q < fixed_in fixed → z q ≡ shade_at (stock fixed) q)
      → get_or answer 3 0
      ≤ sum (record_in s).used (λ i. get_or ws i 0 * distance (colour_at ks i) (z (get_or members i 0)))
  free-final-is-least z there = rw held-total (lloyd-fixed.free-final-is-least accepted-fixed bytes z there)

  -- each free group's cost is bounded by its least
  pub free-group-bounded : (q : ℕ) → fixed_in fixed ≤ q
      → Bounded (group_at (colours_of (record_in s).used ks ws) (state_of shades members) q)
      (group_cost (colours_of (record_in s).used ks ws) (state_of shades members) q)
  free-group-bounded q free = rw (crossed h).shades_are (lloyd-fixed.free-group-bounded accepted-fixed bytes q free)

  -- its palette is not refused, and has the fixed shades' own bytes
  pub fixed-palette-is-own : (d : List ℕ) {r : ℕ} {x : List ℕ} → 3 * k ≤ length d
      → PaletteCrosses
      (palette_from_groups_fixed (fixed_in fixed) (record_in s) ks ws (state_of (take (3 * k) shades) members) d) r x
      → (r ≡ done) × ((i : ℕ) → i < length fixed → get_or x i 0 ≡ get_or fixed i 0)
  fixed-palette-is-own d room p = (
    p.number ∙ rw (crossed h).shades_are (ap number_in (palettes.fixed-palette-accepted accepted-fixed bytes d room)),
    λ i l. rw (p.palette_is, (crossed h).shades_are) (palettes.fixed-byte-is-own accepted-fixed bytes d room i l),
  )
