-- What the calls leave of a picture: by what the tests said, and from what the calls answered.
use Prim.Native.Nat.{ℕ, ◌*◌, ◌/◌, ◌≤◌}
use mathlib.Core.List.{List}
use mathlib.Core.Path.{◌≡◌, refl, sym, ap, ◌∙◌}
use lib.ListN.{length, take, replicate}
use Rattle.std.specs.Prelude.{Result, Ok, Err, None}
use Rattle.std.specs.Result.{result_err, result_unwrap_or}
use Rattle.number.specs.{bit}
use Rattle.refusal.specs.{Refusal, Row, done, first_of, outcome_by, RefusesBy, number_in, first_refusal}
use Rattle.refusal.proofs.By.{by-number, to-number, by-made, by-refused, by-joined, refuses_by}
use Rattle.refusal.proofs.Order.{none-front, none-back}
use Rattle.refusal.proofs.Promises.{done-exactly, number-not-done}
use Rattle.table.specs.{Record, Added, Outcome, AddMeets, empty_record, add_strip}
use Rattle.shades.specs.{most_shades}
use Rattle.lloyd.specs.{Ran, RunOutcome, RunMeets, AcceptedRun, run_of}
use Rattle.lloyd.proofs.Promises.{bad-count-exactly, shades-room}
use Rattle.lloyd.proofs.Wholes.{run-refuses}
use Rattle.method.specs.{state_of}
use Rattle.palette.specs.{PaletteMeets}
use Rattle.palette_groups.specs.{palette_from_groups}
use Rattle.mapping.specs.{Mapped, Unmapped, MapMeets, refusal_in, mapped_in, map_strip}
use Rattle.mapping.proofs.Meaning.{map-refuses}
use Rattle.p6.specs.{raster_of}
use Rattle.listing_work.specs.Works.{
  listed_zeros,
  listed_limit,
  listed_totals,
  table_of,
  no_run,
  run_on,
  ran_on,
  run_tests,
  palette_of_run,
  raster_tests,
  map_tests,
  work_tests,
  work_run,
  left_run,
  made_work,
  work_picture,
}
use Rattle.listing_work.specs.declared.Work.{Work}

-- an answer that is no refusal is its value
answered : (a : Result Ran Refusal) → result_err a ≡ None → Ok (result_unwrap_or a no_run) ≡ a
answered (Ok r) e = refl
answered (Err n) e = absurd (number-not-done n (ap number_in e))

-- ---- of a run

module _ (raster : List ℕ) (rec : Record) (ks ws : List ℕ) (ran : Ran) (members : List ℕ) (count : ℕ)
    {r : Result (Unit {0}) Refusal} {a : Result Mapped Unmapped} {p i : List ℕ}
    (made : PaletteMeets
    (palette_from_groups rec ks ws (state_of (take (3 * count) ran.shades) members) (replicate 192 0)) r p)
    (mapped : MapMeets (map_strip raster (take (3 * count) p) (replicate 8192 0) 0) a i) where
  -- the tests of the mapping
  abbrev tests : List Row
  tests = raster_tests raster (palette_of_run rec ks ws ran members count).palette count

  -- the mapping's refusal is that of its rows
  mapped-refusal : first_refusal tests ≡ refusal_in a
  unfolding listed_zeros
  mapped-refusal =
      sym
      (ap refusal_in mapped.answer
      ∙ (map-refuses raster (take (3 * count) p) listed_zeros 0).refusal_is
      ∙ ap (λ x. first_refusal (raster_tests raster x count)) made.palette_is)

  -- a refused mapping leaves its refusal
  pub run-refused : {u : Unmapped} → a ≡ Err u
      → ◌≡◌ {A = Result Work Refusal} (Err u.refusal) (left_run raster rec ks ws ran members count)
  unfolding left_run
  run-refused {u} is =
      sym
      (by-refused tests (Ok (work_run raster rec ks ws ran members count)) Err u.refusal
      (mapped-refusal ∙ ap refusal_in is))

  -- what palette and mapping answered is what is left of a run
  pub run-left : {m : Mapped} {flag : ℕ} → a ≡ Ok m → flag ≡ bit ran.settled → ◌≡◌ {A = Result Work Refusal}
      (Ok
      (record {
        summary = record {
          used = rec.used;
          pixels = rec.pixels;
          rounds = ran.rounds;
          settled = flag;
          total = ran.total;
          distances = ran.distances;
          error = m.error;
        };
        shades = count;
        palette = p;
        pixels = length raster / 3;
        index = i;
      }))
      (left_run raster rec ks ws ran members count)
  unfolding left_run listed_zeros work_run
  run-left is flag_is =
      rw (ap mapped_in (sym is ∙ mapped.answer), mapped.index_is, made.palette_is, flag_is)
      (sym
      (by-made tests (Ok (work_run raster rec ks ws ran members count)) Err (mapped-refusal ∙ ap refusal_in is)))

-- ---- of a picture

module _ (p : List ℕ) (count : ℕ) where
  -- the calls on a picture refuse by the run's rows, and then by the mapping's
  pub work-refuses : RefusesBy (work_tests p count) (work_picture p count) result_err (Ok (made_work p count)) Err
  unfolding work_picture
  work-refuses = refuses_by _ _ _ _ refl (λ n. refl)

  -- where nothing is refused the run is not
  pub run-passed : first_of (work_tests p count) ≡ done → first_of (run_tests p count) ≡ done
  run-passed e =
      (done-exactly (run_tests p count)).1
      (none-front (run_tests p count) (map_tests p count) ((done-exactly (work_tests p count)).0 e))

  -- nor is the mapping
  pub map-passed : first_of (work_tests p count) ≡ done → first_of (map_tests p count) ≡ done
  map-passed e =
      (done-exactly (map_tests p count)).1
      (none-back (run_tests p count) (map_tests p count) ((done-exactly (work_tests p count)).0 e))

  -- the run's tests decide first, and then the mapping's
  one_by_one : work_picture p count
      ≡ outcome_by (run_tests p count) (outcome_by (map_tests p count) (Ok (made_work p count)) Err) Err
  unfolding work_picture
  one_by_one = by-joined (run_tests p count) (map_tests p count) (Ok (made_work p count)) Err

  -- the run's refusal is that of its rows
  run-refusal : result_err (run_on p count).answer ≡ first_refusal (run_tests p count)
  run-refusal =
      (run-refuses (table_of p).answer.rec (table_of p).keys (table_of p).weights count listed_limit listed_zeros
      listed_totals
      ).refusal_is

  -- where none of them holds the shades are at most 64
  pub run-count : first_of (run_tests p count) ≡ done → count ≤ most_shades
  run-count e = ((bad-count-exactly count).0 ((done-exactly (run_tests p count)).0 e).1.0).1

  -- and the run is accepted
  pub run_is : first_of (run_tests p count) ≡ done
      → AcceptedRun (table_of p).answer.rec (table_of p).keys (table_of p).weights count listed_limit listed_zeros
      listed_totals
      (ran_on p count) (run_on p count).members (run_on p count).totals
  run_is e = record {
    meets = record {
      answer =
          answered (run_on p count).answer (run-refusal ∙ by-number (run_tests p count) None e);
      members_are = refl;
      totals_are = refl;
    };
  }

  -- so their coordinates are there
  run_room : first_of (run_tests p count) ≡ done → 3 * count ≤ length (ran_on p count).shades
  run_room e = shades-room (run_is e)

-- what the calls answered and left is the table and the run of the picture
pub record Ready (p : List ℕ) (count : ℕ) (rec : Record) (ks ws : List ℕ) (answer : Result Ran Refusal)
    (members : List ℕ) : Type 0 where
  pub rec_is : rec ≡ (table_of p).answer.rec
  pub keys_are : ks ≡ (table_of p).keys
  pub weights_are : ws ≡ (table_of p).weights
  pub answer_is : answer ≡ (run_on p count).answer
  pub members_are : members ≡ (run_on p count).members

-- it is, once the raster is added and the run made
pub ready : (p : List ℕ) (count : ℕ) {raster : List ℕ} {added : Added} {ks ws ms ts : List ℕ}
    {answer : Result Ran Refusal} → raster ≡ raster_of p
    → AddMeets empty_record (replicate 8192 0) (replicate 8192 0) raster added ks ws
    → RunMeets (run_of added.rec ks ws count listed_limit (replicate 8192 0) listed_totals) answer ms ts
    → Ready p count added.rec ks ws answer ms
unfolding listed_zeros
ready p count {raster} {added} {ks} {ws} r a m =
    let sheet : List ℕ → Outcome = add_strip empty_record listed_zeros listed_zeros in
    let rec_is : added.rec ≡ (table_of p).answer.rec =
    ap (λ (x : Added). x.rec) (a.answer ∙ ap (λ s. (sheet s).answer) r) in
    let keys_are : ks ≡ (table_of p).keys = a.keys ∙ ap (λ s. (sheet s).keys) r in
    let weights_are : ws ≡ (table_of p).weights = a.weights ∙ ap (λ s. (sheet s).weights) r in
    let run_is : run_of added.rec ks ws count listed_limit listed_zeros listed_totals ≡ run_on p count =
    rw (rec_is, keys_are, weights_are) in
    record {
      rec_is = rec_is;
      keys_are = keys_are;
      weights_are = weights_are;
      answer_is = m.answer ∙ ap (λ (o : RunOutcome). o.answer) run_is;
      members_are = m.members_are ∙ ap (λ (o : RunOutcome). o.members) run_is;
    }

-- its refusal is that of the rows
ready-refusal : {p : List ℕ} {count : ℕ} {rec : Record} {ks ws : List ℕ} {answer : Result Ran Refusal}
    {members : List ℕ} → Ready p count rec ks ws answer members
    → first_refusal (run_tests p count) ≡ result_err answer
ready-refusal {p} {count} w =
    sym (ap (λ (a : Result Ran Refusal). result_err a) w.answer_is ∙ run-refusal p count)

-- a refused run leaves its refusal
pub ready_refused : {p : List ℕ} {count : ℕ} {rec : Record} {ks ws : List ℕ} {refusal : Refusal} {members : List ℕ}
    → Ready p count rec ks ws (Err refusal) members
    → ◌≡◌ {A = Result Work Refusal} (Err refusal) (work_picture p count)
ready_refused {p} {count} {refusal = refusal} w =
    sym (one_by_one p count ∙ by-refused (run_tests p count) _ Err refusal (ready-refusal w))

module _ {p : List ℕ} {count : ℕ} {rec : Record} {ks ws : List ℕ} {ran : Ran} {members : List ℕ}
    (w : Ready p count rec ks ws (Ok ran) members) where
  -- the answer of an accepted run is the picture's
  ran-is : ran ≡ ran_on p count
  ran-is = ap (λ (a : Result Ran Refusal). result_unwrap_or a no_run) w.answer_is

  -- none of the run's tests holds
  ready-passed : first_of (run_tests p count) ≡ done
  ready-passed = to-number (run_tests p count) None (ready-refusal w)

  -- its shades are at most 64
  pub ready-count : count ≤ most_shades
  ready-count = run-count p count ready-passed

  -- and their coordinates are there
  pub ready-room : 3 * count ≤ length ran.shades
  ready-room = rw ran-is (run_room p count ready-passed)

  -- it leaves what is left of it
  pub ready-left : {left : Result Work Refusal} {raster : List ℕ} → left ≡ left_run raster rec ks ws ran members count
      → raster ≡ raster_of p → left ≡ work_picture p count
  unfolding left_run
  ready-left e is =
      let made = by-made (run_tests p count) _ Err (ready-refusal w) in
      e ∙ rw (is, w.rec_is, w.keys_are, w.weights_are, ran-is, w.members_are) (sym (one_by_one p count ∙ made))
