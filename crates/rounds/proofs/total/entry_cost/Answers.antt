-- `entry_cost` meets its contract: weight and distance are those of a table.
use Rattle.method.specs.{colours_of}
use Rattle.method.proofs.Sizes.{fair-of-table, weight-at-most}
use Rattle.rounds.proofs.total.entry_cost.Goals as goal

pub cost-requires : goal.cost-requires
cost-requires c =
    let a = c.args in (
      weight-at-most (colours_of a.used a.keys.now a.weights.now) (fair-of-table c.requires.0.steppable.table) a.i
          c.requires.1,
      c.distance_to.ensures.1,
    )
