-- A run depends on the used entries alone: what the slices of a table have past them is not read. Of the record it
-- depends on how many are used and on whether it is true. By any rule that goes by coordinates.
use Prim.Native.Nat.{ℕ, ◌≤◌, ◌<◌}
use mathlib.Core.Bool.{Bool, ◌||◌}
use mathlib.Core.List.{List, [], ◌∷◌}
use mathlib.Core.Path.{◌≡◌, ap, ap₂, fun_ext, ◌∙◌}
use lib.Dec.{ltb}
use lib.ListN.{get_or, length}
use Rattle.number.specs.{sum, fill, first_that}
use Rattle.std.specs.Prelude.{Ok}
use Rattle.refusal.specs.{row, BadTable, BadCount, FewColours, BadLimit, ShortRoom}
use Rattle.refusal.proofs.By.{by-alike}
use Rattle.colour.specs.{colour_of}
use Rattle.table_test.specs.{Record, room_of, bad_table}
use Rattle.table_test.proofs.Goods.{bad-table-alike}
use Rattle.shades.specs.{colour_at}
use Rattle.method.specs.{
  Base,
  Colours,
  State,
  Rule,
  Move,
  Goes,
  colours_of,
  after,
  total_of,
  short_distances,
  final_of,
  rounds_made,
  on_mean,
  begin_from,
  begin,
}
use Rattle.method.proofs.Used.{
  total-alike,
  distances-alike,
  final-alike,
  after-alike,
  quiet-alike,
  begin-from-alike,
  begin-alike,
}
use Rattle.lloyd_tests.specs.{limit_of, bad_count, bad_limit, short_totals}
use Rattle.lloyd_refusal.specs.{run_rows}
use Rattle.lloyd.specs.Outcomes.{RunOutcome, kept_run, made_run, run_by, run_with}
use Rattle.lloyd.proofs.Wholes.{runnable-of-none}

-- what a run reads from a state on its way: the state, the total, the distances, and the members against the shades
record Shown : Type 0 where
  state : State
  total : ℕ
  distances : ℕ
  final : ℕ

-- what it reads on some colours
abbrev shown_of : Colours → ℕ → State → Shown
shown_of C k z =
    record { state = z; total = total_of C k z; distances = short_distances C k z; final = final_of C z }

-- the run from which rounds are quiet and what each state shows
abbrev run_shown : ℕ → List ℕ → (ℕ → Bool) → (ℕ → Shown) → RunOutcome
run_shown limit ts still shown = record {
  answer = Ok (record {
    shades = (shown (rounds_made limit still)).state.coordinates;
    rounds = rounds_made limit still;
    settled = ltb (first_that limit still) limit;
    distances = sum (rounds_made limit still) (λ r. (shown r).distances);
    total = (shown (rounds_made limit still)).final;
  });
  members = (shown (rounds_made limit still)).state.members;
  totals = fill (rounds_made limit still) (λ r. (shown r).total) ts;
}

module _ (rec : Record) (ks ws ks' ws' : List ℕ) (keys : (i : ℕ) → i < rec.used → get_or ks i 0 ≡ get_or ks' i 0)
    (weights : (i : ℕ) → i < rec.used → get_or ws i 0 ≡ get_or ws' i 0) (k : ℕ) where
  -- the colours of the one table
  abbrev C : Colours
  C = colours_of rec.used ks ws

  -- and of the other
  abbrev D : Colours
  D = colours_of rec.used ks' ws'

  -- used colours stand in the same places
  places : (i : ℕ) → i < rec.used → colour_at ks i ≡ colour_at ks' i
  places i l = ap colour_of (keys i l)

  -- a state shows the same
  shown-alike : (z : State) → shown_of C k z ≡ shown_of D k z
  shown-alike z =
      rw (
        total-alike rec.used _ _ _ _ weights places k z,
        distances-alike rec.used _ _ _ _ weights places k z,
        final-alike rec.used _ _ _ _ weights places k z,
      )

  module _ (rule : Rule) {move : Move} (by : Goes rule move) where
    -- the same rounds are made from a state
    rounds-alike : (limit : ℕ) (a : State) (ts : List ℕ) → made_run rule C k limit a ts ≡ made_run rule D k limit a ts
    rounds-alike limit a ts =
        ap₂ (run_shown limit ts) (quiet-alike rec.used _ _ _ _ weights places by k a)
        (fun_ext (λ r. ap (shown_of C k) (after-alike rec.used _ _ _ _ weights places by k a r)
        ∙ shown-alike (after rule D k a r)))

    -- and the run begins in the same state, from the table's mean
    made_alike : 0 < rec.used → (limit : ℕ) (ms ts : List ℕ)
        → made_run rule C k limit (begin C k ms) ts ≡ made_run rule D k limit (begin D k ms) ts
    made_alike some limit ms ts =
        ap (λ b. made_run rule C k limit b ts) (begin-alike rec.used _ _ _ _ weights places some k ms)
        ∙ rounds-alike limit (begin D k ms) ts

    -- and from given shades
    pub made-from-alike : (B : Base) → 0 < rec.used → (limit : ℕ) (ms ts : List ℕ)
        → made_run rule (colours_of rec.used ks ws) k limit (begin_from B (colours_of rec.used ks ws) k ms) ts
        ≡ made_run rule (colours_of rec.used ks' ws') k limit (begin_from B (colours_of rec.used ks' ws') k ms) ts
    made-from-alike B some limit ms ts =
        ap (λ b. made_run rule C k limit b ts) (begin-from-alike rec.used _ _ _ _ weights places some B k ms)
        ∙ rounds-alike limit (begin_from B D k ms) ts

-- so runs on tables with the same record and the same used entries answer and leave the same
pub run-of-used : (rule : Rule) {move : Move} → Goes rule move → (rec : Record) (ks ws ks' ws' : List ℕ) (k limit : ℕ)
    (ms ts : List ℕ) → rec.used ≤ room_of ks ws → rec.used ≤ room_of ks' ws'
    → ((i : ℕ) → i < rec.used → get_or ks i 0 ≡ get_or ks' i 0)
    → ((i : ℕ) → i < rec.used → get_or ws i 0 ≡ get_or ws' i 0)
    → run_with rule rec ks ws k limit ms ts ≡ run_with rule rec ks' ws' k limit ms ts
run-of-used rule by rec ks ws ks' ws' k limit ms ts room room' keys weights =
    by-alike (run_rows rec ks ws k limit ms ts) (run_rows rec ks' ws' k limit ms ts) _ _ (kept_run ms ts)
    (rw (bad-table-alike rec ks ws ks' ws' room room' keys weights))
    (λ e. made_alike rec ks ws ks' ws' keys weights k rule by (runnable-of-none rec ks ws k limit ms ts e).colours
    (limit_of limit) ms ts)

-- runs by two records that use as many entries and are both true or both not are the same
pub run-by-truth : (rule : Rule) (rec rec' : Record) (ks ws : List ℕ) (k limit : ℕ) (ms ts : List ℕ)
    → rec.used ≡ rec'.used → bad_table rec ks ws ≡ bad_table rec' ks ws
    → run_with rule rec ks ws k limit ms ts ≡ run_with rule rec' ks ws k limit ms ts
run-by-truth rule rec rec' ks ws k limit ms ts used truth = ap₂ (λ (bad : Bool) (n : ℕ). judged bad n) truth used
  where
    -- the run on so many used entries, with a table that is bad or not
    judged : Bool → ℕ → RunOutcome
    judged bad n =
        run_by (row bad BadTable
        ∷ row (bad_count k) BadCount
        ∷ row (ltb n k) FewColours
        ∷ row (bad_limit limit) BadLimit
        ∷ row (ltb (length ms) n || short_totals limit ts) ShortRoom
        ∷ []) rule (on_mean (colours_of n ks ws)) (colours_of n ks ws) k limit ms ts
