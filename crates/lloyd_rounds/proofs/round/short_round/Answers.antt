-- `short_round` meets its contract: each refusal is a law of `Ways`, and past the tests the round can be made.
use mathlib.Core.Path.{sym, ◌∙◌}
use Rattle.std.proofs.lemmas.Result.{err_from_is_err_and}
use Rattle.method.specs.{state_of}
use Rattle.lloyd_rounds.proofs.Rounds.{plain-steppable, short-walkable, good-of-none}
use Rattle.lloyd_rounds.proofs.Ways.{short-meets-refused, short-meets-off}
use Rattle.lloyd_rounds.proofs.round.short_round.Goals as goal

pub returns-in_err-round_refusal : goal.returns-in_err-round_refusal
returns-in_err-round_refusal c =
    let s = c.args in
    let p = err_from_is_err_and c.from_residual.result c.from_residual.ensures.1 in
    rw (p.1, p.2)
    (short-meets-refused s.rec s.keys.now s.weights.now (state_of s.coordinates.now s.members.now) _
    (sym c.in_err-round_refusal.ensures))

pub bad_member-requires : goal.bad_member-requires
bad_member-requires c =
    let s = c.args in
    let a = state_of s.coordinates.now s.members.now in
    let p = plain-steppable s.rec s.keys.now s.weights.now a
    (good-of-none s.rec s.keys.now s.weights.now a (sym c.in_ok-round_refusal.ensures)) in
    (p.fit.room, p.table.few)

pub returns-then-bad_member : goal.returns-then-bad_member
returns-then-bad_member c =
    let s = c.args in
    short-meets-off s.rec s.keys.now s.weights.now (state_of s.coordinates.now s.members.now)
    (sym c.in_ok-round_refusal.ensures) (sym c.bad_member.ensures ∙ c.if-bad_member.true)

pub short_step-a-requires : goal.short_step-a-requires
short_step-a-requires c =
    let s = c.args in
    let a = state_of s.coordinates.now s.members.now in
    short-walkable s.rec s.keys.now s.weights.now a
    (good-of-none s.rec s.keys.now s.weights.now a (sym c.in_ok-round_refusal.ensures))
    (sym c.bad_member.ensures ∙ c.if-bad_member.false)
