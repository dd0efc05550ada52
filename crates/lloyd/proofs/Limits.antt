-- A settled run under other limits: it is the same under each that is not below the rounds it made.
use Prim.Native.Nat.{ℕ, ◌≤◌, ◌<◌}
use mathlib.Core.Bool.{true}
use mathlib.Core.List.{List}
use mathlib.Core.Path.{◌≡◌, sym, ap, ◌∙◌}
use native.Mathlib.Omega.{arith}
use lib.Dec.{ltb}
use lib.ListN.{length}
use borrow.Author.Tests.{lt-ltb, ltb-true}
use Rattle.number.specs.{first_that}
use Rattle.std.specs.Prelude.{None}
use Rattle.refusal.specs.{Row, first_refusal}
use Rattle.refusal.proofs.By.{none-exactly}
use Rattle.table_test.specs.{Record}
use Rattle.method.specs.{
  Rule,
  GoodRule,
  Base,
  Colours,
  State,
  most_rounds,
  colours_of,
  quiet,
  rounds_made,
  on_mean,
  begin_from,
}
use Rattle.method.proofs.Runs.{made_quiet, first-at-any-limit}
use Rattle.lloyd_tests.specs.{limit_of}
use Rattle.lloyd_tests.proofs.Promises.{bad-limit-exactly, short-totals-exactly}
use Rattle.lloyd_refusal.specs.{run_rows}
use Rattle.lloyd.specs.Outcomes.{AcceptedBy, made_run, run_by, run_with}
use Rattle.lloyd.specs.declared.Ran.{Ran}
use Rattle.lloyd.proofs.Accepted.{with-tests, with-making}
use Rattle.lloyd.proofs.By.{by-refuses, accepted-done}
use Rattle.lloyd.proofs.Made.{Making, answer-is, rounds-made}

-- a run that is made and settles is made the same under another limit
made-at-any-limit : (rule : Rule) (C : Colours) (k limit other : ℕ) (a : State) (ts : List ℕ)
    → ltb (first_that limit (quiet rule C k a)) limit ≡ true → rounds_made limit (quiet rule C k a) ≤ other
    → made_run rule C k other a ts ≡ made_run rule C k limit a ts
made-at-any-limit rule C k limit other a ts settled enough =
    let still = quiet rule C k a in
    let below : first_that limit still < limit = ltb-true (first_that limit still) limit settled in
    let within : first_that limit still < other = omega (arith, made_quiet limit still below) in
    rw (first-at-any-limit limit still other below enough, lt-ltb (first_that limit still) other within, settled)

-- so a run that is accepted and settles is the same under another limit that has its rounds, where no row refuses it
pub settled-by : (rows rows' : List Row) (rule : Rule) (B : Base) (C : Colours) (k limit other : ℕ) (ms ts : List ℕ)
    {r : Ran} {members totals : List ℕ} → AcceptedBy (run_by rows rule B C k limit ms ts) r members totals
    → Making rule C k (limit_of limit) (begin_from B C k ms) ts r members totals → r.settled ≡ true
    → r.rounds ≤ limit_of other → first_refusal rows' ≡ None
    → run_by rows' rule B C k other ms ts ≡ run_by rows rule B C k limit ms ts
settled-by rows rows' rule B C k limit other ms ts h m settled enough passes =
    (by-refuses rows' rule B C k other ms ts).by_none passes
    ∙ made-at-any-limit rule C k (limit_of limit) (limit_of other) (begin_from B C k ms) ts
    (sym (ap (λ (x : Ran). x.settled) (answer-is m)) ∙ settled) (rw (rounds-made m) at enough)
    ∙ sym ((by-refuses rows rule B C k limit ms ts).accepted_is (accepted-done h))

-- ---- a run from the table's mean

module _ (rule : Rule) (good : GoodRule rule) (rec : Record) (ks ws : List ℕ) (k limit : ℕ) (ms ts : List ℕ) {r : Ran}
    {members totals : List ℕ} (h : AcceptedBy (run_with rule rec ks ws k limit ms ts) r members totals) where
  -- under a limit that passes its own tests no row holds
  rows_pass : (other : ℕ) → other ≤ most_rounds → limit_of other ≤ length ts
      → first_refusal (run_rows rec ks ws k other ms ts) ≡ None
  rows_pass other most room =
      let g = with-tests rule good rec ks ws k limit ms ts h in
      (none-exactly (run_rows rec ks ws k other ms ts)).1 (
        g.table,
        (
          g.count,
          (
            g.colours,
            ((bad-limit-exactly other).1 most, (rw g.members ((short-totals-exactly other ts).1 room), tt)),
          ),
        ),
      )

  -- so a settled run is the same there
  pub settled-at-any-limit : r.settled ≡ true → (other : ℕ) → r.rounds ≤ limit_of other → other ≤ most_rounds
      → limit_of other ≤ length ts → run_with rule rec ks ws k other ms ts ≡ run_with rule rec ks ws k limit ms ts
  settled-at-any-limit settled other enough most room =
      let C = colours_of rec.used ks ws in
      settled-by (run_rows rec ks ws k limit ms ts) (run_rows rec ks ws k other ms ts) rule (on_mean C) C k limit other
      ms ts h (with-making rule good rec ks ws k limit ms ts h) settled enough (rows_pass other most room)
