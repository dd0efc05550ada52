-- `move_shades` meets its contract: no shade that is held moves or is counted, and each turn moves one more.
use Rattle.std.proofs.Common.{◌∙◌, ap, arith}
use Rattle.std.specs.Int.{from_bool}
use Rattle.number.proofs.Tallies.{counting-from, counting-step}
use Rattle.method.specs.{move_of}
use Rattle.moves.specs.Striding.{leaps}
use Rattle.moves.proofs.Turns.{held-shades, held_stays, from_bool-bit, turn-shades-holding, turn-told-holding}
use Rattle.moves.proofs.step.move_shades.Goals as goal

pub loop-q-init : goal.loop-q-init
loop-q-init c =
    let a = c.args in
    record {
      counting = counting-from a.count a.held _ c.requires.1
          (held_stays a.held (move_of (leaps a.stride)) a.sums.now a.shades.now);
      moved = held-shades a.held (move_of (leaps a.stride)) a.sums.now a.shades.now;
    }

pub loop-q-preserved : goal.loop-q-preserved
loop-q-preserved c =
    let a = c.args in
    let l = c.loop-q.invariant in
    let move = move_of (leaps a.stride) in
    let told = turn-told-holding a.held move a.sums.now a.shades.now c.loop-q.q c.loop-q.auto.q l.moved
    c.move_shade.ensures.moved in
    record {
      counting = counting-step l.counting (omega arith) _
          (c.from-moved.ensures ∙ ap from_bool told ∙ from_bool-bit _);
      moved = turn-shades-holding a.held move a.sums.now a.shades.now c.loop-q.q c.loop-q.auto.q l.moved (omega arith)
          c.move_shade.ensures.shades;
    }
