-- `lay_out` stores point after point: its invariant is `Fronts`.
use Rattle.std.proofs.Common.{length}
use Rattle.search_all.specs.Asking.{scaled_at}
use Rattle.search_all.proofs.Layouts.{fronts-start, fronts-step}
use Rattle.search_all.proofs.all.lay_out.Goals as goal

pub loop-i-init : goal.loop-i-init
loop-i-init g c =
    let a = c.args in
    fronts-start (scaled_at g.row.SCALE a.keys.now) (length a.keys.now) a.reds.now a.greens.now a.blues.now

pub loop-i-preserved : goal.loop-i-preserved
loop-i-preserved g c =
    fronts-step c.loop-i.invariant c.loop-i-test.true c.requires.1
    record { r = c.short_of.result; g = c.short_of-in-loop-i.result; b = c.short_of-in-loop-i-2.result }
    (rw (
      c.short_of.ensures.0,
      c.short_of-in-loop-i.ensures.0,
      c.short_of-in-loop-i-2.ensures.0,
      c.red_of.ensures.0,
      c.green_of.ensures.0,
      c.blue_of.ensures.0,
    ))
