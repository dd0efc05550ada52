-- `fill_palette`: the palette is filled so far.
use Rattle.std.proofs.Common.{◌≡◌, get_or}
use Rattle.number.specs.{fill}
use Rattle.palette.specs.Palettes.{level_of}
use Rattle.palette.proofs.call.fill_palette.Given as goal

abbrev pub invariant-loop-i : goal.invariant-loop-i
invariant-loop-i l = l.palette ≡ fill l.i (λ j. level_of (get_or l.coordinates j 0)) l.initial.palette
