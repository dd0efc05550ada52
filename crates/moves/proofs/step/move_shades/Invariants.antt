-- The shades so far are moved, and those that went elsewhere are counted.
use Rattle.std.proofs.Common.{◌≡◌, ◌*◌, not}
use Rattle.number.specs.{fill}
use Rattle.number.proofs.Tallies.{Counting}
use Rattle.method.specs.{move_of, holding_move}
use Rattle.moves.specs.Reading.{goes, stays}
use Rattle.moves.specs.Striding.{leaps}
use Rattle.moves.proofs.step.move_shades.Given as goal

abbrev pub invariant-loop-q : goal.invariant-loop-q
invariant-loop-q l = record {
  counting : Counting l.count
      (λ j. not (stays (holding_move l.held (move_of (leaps l.stride))) l.sums l.initial.shades j)) l.moved l.q;
  moved : l.shades
      ≡ fill (3 * l.q) (goes (holding_move l.held (move_of (leaps l.stride))) l.sums l.initial.shades)
      l.initial.shades;
}
