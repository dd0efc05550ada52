-- `plain_round` meets its contract: past the tests the round can be made.
use mathlib.Core.Path.{sym}
use Rattle.method.specs.{state_of}
use Rattle.lloyd_rounds.proofs.Rounds.{plain-steppable, good-of-none}
use Rattle.lloyd_rounds.proofs.round.plain_round.Goals as goal

pub plain_step-a-requires : goal.plain_step-a-requires
plain_step-a-requires c =
    let s = c.args in
    let a = state_of s.coordinates.now s.members.now in
    plain-steppable s.rec s.keys.now s.weights.now a
    (good-of-none s.rec s.keys.now s.weights.now a (sym c.in_ok-round_refusal.ensures))
