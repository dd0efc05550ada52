-- `plain_step` meets its contract: a grouping by the plain search and the move are a step, with no shade held.
use Rattle.std.proofs.Common.{false, arith}
use Rattle.method.specs.{to_mean}
use Rattle.rounds_step.proofs.Stepping.{move-asked, step-meets, step-of-none-held}
use Rattle.rounds_step.proofs.round.plain_step.Goals as goal

pub move_shades-moved-requires : goal.move_shades-moved-requires
move_shades-moved-requires c = move-asked c.requires c.group_plain-a.ensures.grouped 0 (omega arith)

pub returns : goal.returns
returns c =
    let e = c.group_plain-a.ensures in
    let moved = c.move_shades-moved.ensures in
    step-of-none-held to_mean
    (step-meets c.requires e.grouped 0 false _ _ _ _ moved.shades moved.moved e.distances)
