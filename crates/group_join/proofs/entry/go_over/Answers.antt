-- `go_over` meets its contract: an entry that stays leaves all as it was, and one that goes takes what it gives along.
use Rattle.std.proofs.Common.{◌<◌, length, arith}
use Rattle.level_sums.proofs.Bounds.{weight-at-most}
use Rattle.group_sums.proofs.Moving.{leaves-fit, joins-fit, summed-moved}
use Rattle.group_join.proofs.entry.Joining.{joined_at, joined-goes}
use Rattle.group_join.proofs.entry.go_over.Goals as goal

pub red_green-red_green-requires : goal.red_green-red_green-requires
red_green-red_green-requires c = weight-at-most _ _ _ c.requires.0 _ c.requires.3

pub blue_pixels-blue_pixels-requires : goal.blue_pixels-blue_pixels-requires
blue_pixels-blue_pixels-requires c = weight-at-most _ _ _ c.requires.0 _ c.requires.3

pub lower-requires : goal.lower-requires
lower-requires c =
    let a = c.args in
    let p = c.requires in
    let goes = joined-goes a.members.now a.i a.q (omega (arith, p.1.room, p.3)) c.if-p-q.false in
    let few = p.1.below _ p.3 in
    let f = leaves-fit a.keys.now a.weights.now p.2 goes p.3 few in
    rw (c.blue_pixels-blue_pixels.ensures, c.red_green-red_green.ensures) (few, f.0, f.1)

pub raise-requires : goal.raise-requires
raise-requires c =
    let a = c.args in
    let p = c.requires in
    let inside : a.i < length a.members.now = omega (arith, p.1.room, p.3) in
    let e = joined_at a.members.now a.i a.q inside in
    let f = joins-fit p.0 p.2 (joined-goes a.members.now a.i a.q inside c.if-p-q.false) p.3 (rw e p.4) in
    rw (c.lower.ensures, c.blue_pixels-blue_pixels.ensures, c.red_green-red_green.ensures)
    (p.4, rw e at f.0, rw e at f.1)

pub returns-clause-sums : goal.returns-clause-sums
returns-clause-sums c =
    let a = c.args in
    let p = c.requires in
    let inside : a.i < length a.members.now = omega (arith, p.1.room, p.3) in
    let e = joined_at a.members.now a.i a.q inside in
    let f = summed-moved a.keys.now a.weights.now p.2 (joined-goes a.members.now a.i a.q inside c.if-p-q.false) p.3
    (p.1.below _ p.3) (rw e p.4) in
    rw (c.raise.ensures, c.lower.ensures, c.blue_pixels-blue_pixels.ensures, c.red_green-red_green.ensures) (rw e at f)
