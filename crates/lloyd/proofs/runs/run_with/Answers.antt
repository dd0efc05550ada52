-- `run_with` meets its contract: where it is not refused the run can be made.
use mathlib.Core.Path.{refl, sym}
use Rattle.lloyd.proofs.Wholes.{runnable-of-none, table-of-none}
use Rattle.lloyd.proofs.runs.run_with.Goals as goal

pub make_run-a-requires : goal.make_run-a-requires
make_run-a-requires c =
    let s = c.args in
    let none = sym c.in_ok-run_refusal.ensures in (
      rw c.limit_of-rounds.ensures
          (runnable-of-none s.rec s.keys.now s.weights.now s.count s.limit s.members.now s.totals.now none),
      table-of-none s.rec s.keys.now s.weights.now s.count s.limit s.members.now s.totals.now none,
      refl,
    )
