-- `next_step` meets its contract: a grouping from the former shades and the move are a step.
use Rattle.moves.specs.{leaps}
use Rattle.rounds_step.proofs.Stepping.{move-asked, step-meets, step-sums}
use Rattle.rounds_step.proofs.round.next_step.Goals as goal

pub move_shades-moved-requires : goal.move_shades-moved-requires
move_shades-moved-requires c =
    move-asked c.requires.0.steppable c.regroup-a.ensures.grouped c.args.held c.requires.1

pub returns : goal.returns
returns c =
    let p = c.requires.0.steppable in
    let e = c.regroup-a.ensures in
    let moved = c.move_shades-moved.ensures in
    record {
      step = step-meets p e.grouped c.args.held (leaps c.args.stride) _ _ _ _ moved.shades moved.moved e.distances;
      sums = step-sums p e.grouped;
    }
