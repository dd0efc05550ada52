-- `enter` meets its contract: the groups of the entries before stay, and those sums are raised by what the entry gives.
use Rattle.std.proofs.Common.{set, arith}
use Rattle.level_sums.proofs.Bounds.{weight-at-most}
use Rattle.group_sums.specs.{member_at}
use Rattle.group_sums.proofs.Bounds.{raises-fit}
use Rattle.group_sums.proofs.Summing.{summed-more}
use Rattle.group_join.proofs.entry.Joining.{joined_at, joined-before}
use Rattle.group_join.proofs.entry.enter.Goals as goal

pub red_green-red_green-requires : goal.red_green-red_green-requires
red_green-red_green-requires c = weight-at-most _ _ _ c.requires.0 _ c.requires.3

pub blue_pixels-blue_pixels-requires : goal.blue_pixels-blue_pixels-requires
blue_pixels-blue_pixels-requires c = weight-at-most _ _ _ c.requires.0 _ c.requires.3

pub raise-requires : goal.raise-requires
raise-requires c =
    let a = c.args in
    let p = c.requires in
    let e = joined_at a.members.now a.i a.q (omega (arith, p.1, p.3)) in
    let f = raises-fit _ _ _ p.0 (member_at (set a.members.now a.i a.q)) a.i p.3 (rw e p.4)
    (joined-before a.members.now a.i a.q p.2) in
    rw (c.blue_pixels-blue_pixels.ensures, c.red_green-red_green.ensures) (p.4, rw e at f.0, rw e at f.1)

pub returns-clause-sums : goal.returns-clause-sums
returns-clause-sums c =
    let a = c.args in
    let p = c.requires in
    let e = joined_at a.members.now a.i a.q (omega (arith, p.1, p.3)) in
    let f = summed-more (member_at (set a.members.now a.i a.q)) _ _ a.i _ (joined-before a.members.now a.i a.q p.2)
    (rw e p.4) in
    rw (c.raise.ensures, c.blue_pixels-blue_pixels.ensures, c.red_green-red_green.ensures) (rw e at f)
