-- `bad_member` counts the members that are not below the count.
use Rattle.std.proofs.Common.{ℕ, ◌∙◌, ◌<◌, leb, ap, arith, length-take}
use Rattle.std.specs.Int.{from_bool}
use Rattle.std.proofs.lemmas.List.{get_or-take}
use Rattle.number.proofs.Tallies.{counting-start}
use Rattle.shades.proofs.Countings.{counting-more}
use Rattle.lloyd_tests.specs.Tests.{member_off}
use Rattle.lloyd_tests.proofs.test.bad_member.Goals as goal

pub loop-member-init : goal.loop-member-init
loop-member-init c = counting-start _ (member_off c.args.count c.args.members.now)

pub loop-member-preserved : goal.loop-member-preserved
loop-member-preserved c =
    let a = c.args in
    let i = c.loop-member.member-index in
    let h : i < a.used = omega (arith, length-take {A = ℕ}) in
    counting-more c.loop-member.invariant h c.from-bad.result
    (c.from-bad.ensures ∙ ap (λ m. from_bool (leb a.count m)) (get_or-take a.used a.members.now i 0 h))
