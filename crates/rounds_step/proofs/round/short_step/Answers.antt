-- `short_step` meets its contract: zeros are the sums over no entry, and no shade is held.
use Rattle.std.proofs.Common.{arith}
use Rattle.method.specs.{to_mean}
use Rattle.group_sums.proofs.Summing.{summed-none}
use Rattle.rounds_step.proofs.Stepping.{step-of-none-held}
use Rattle.rounds_step.proofs.round.short_step.Goals as goal

pub next_step-requires : goal.next_step-requires
next_step-requires c =
    let p = c.requires in
    (p, omega arith, omega (arith, p.steppable.fit.shades.few), summed-none _ _ _)

pub returns : goal.returns
returns c = step-of-none-held to_mean c.next_step.ensures.step
