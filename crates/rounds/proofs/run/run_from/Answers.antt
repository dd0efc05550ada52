-- `run_from` meets its contract: the starting shades begin the run, and the rounds' laws end it.
use Rattle.std.proofs.Common.{arith}
use Rattle.std.proofs.lemmas.List.{length-replicate}
use Rattle.method.specs.{kind_of, holding, listed}
use Rattle.method.proofs.Rules.{kind-good, holding-good}
use Rattle.method.proofs.Startings.{listed-within}
use Rattle.moves.specs.{leaps}
use Rattle.rounds.proofs.Beginnings.{begin-walkable, begun, series-walkable}
use Rattle.rounds.proofs.run.run_from.Goals as goal

pub fill_starts-requires : goal.fill_starts-requires
fill_starts-requires c =
    let p = c.requires in (
      record { some = p.0.colours; room = p.0.table.keys_room },
      p.1,
      p.2,
      p.0.few,
      rw p.4 (simp length-replicate (omega (arith, p.0.few))),
      p.0.members_room,
    )

pub make_rounds-a-requires : goal.make_rounds-a-requires
make_rounds-a-requires c =
    let a = c.args in
    let p = c.requires.0 in
    let e = begun (listed a.base.now) a.used a.keys.now a.weights.now a.count a.members.now _ _ _ c.requires.4
    c.fill_starts.ensures.shades c.fill_starts.ensures.members in (
      rw e (begin-walkable p _ (listed-within a.base.now c.requires.1)),
      c.requires.3,
      p.limit_some,
      p.limit_most,
      p.totals_room,
    )

pub final_total-total-requires : goal.final_total-total-requires
final_total-total-requires c =
    let a = c.args in
    let e = begun (listed a.base.now) a.used a.keys.now a.weights.now a.count a.members.now _ _ _ c.requires.4
    c.fill_starts.ensures.shades c.fill_starts.ensures.members in
    series-walkable c.requires.0 _ (listed-within a.base.now c.requires.1) (holding a.held (kind_of (leaps a.stride)))
    (holding-good a.held (kind-good (leaps a.stride))) (rw e at c.make_rounds-a.ensures)

pub returns-clause-series : goal.returns-clause-series
returns-clause-series c =
    let a = c.args in
    let e = begun (listed a.base.now) a.used a.keys.now a.weights.now a.count a.members.now _ _ _ c.requires.4
    c.fill_starts.ensures.shades c.fill_starts.ensures.members in
    rw e at c.make_rounds-a.ensures
