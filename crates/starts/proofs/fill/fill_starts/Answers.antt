-- `fill_starts` stores start after start: its invariant is `Storing`.
use Rattle.std.proofs.Common.{arith}
use Rattle.method.specs.{listed}
use Rattle.starts.proofs.fill.Choosing.{
  storing-start,
  storing-room,
  storing-same,
  storing-step,
  storing-done,
  storing-set,
}
use Rattle.starts.proofs.fill.fill_starts.Goals as goal

pub loop-q-init : goal.loop-q-init
loop-q-init c =
    let a = c.args in
    storing-start a.keys.now a.used (listed a.base.now) a.count a.shades.now _ a.members.now
    c.shade_at-p.result c.set_all.ensures c.requires.5 (omega (arith, c.requires.2)) c.shade_at-p.ensures

pub turn-p-requires : goal.turn-p-requires
turn-p-requires c =
    let p = c.requires in
    let w = c.loop-q.invariant in
    (p.0, p.1, p.2, storing-room w, w.last, storing-same w)

pub loop-q-preserved : goal.loop-q-preserved
loop-q-preserved c =
    storing-step c.loop-q.invariant c.loop-q-test.true c.requires.4 _ _ c.turn-p.result
    c.turn-p.ensures.shade c.put_shade.ensures c.turn-p.ensures.distances

pub returns : goal.returns
returns c = record {
  shades = storing-done c.loop-q.invariant c.loop-q-test.false;
  members = storing-set c.loop-q.invariant 0 _ c.args.members.now c.set_all.ensures c.set_all-2.ensures;
}
