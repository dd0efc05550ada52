-- `map_blocks` meets its contract: the pixels before place i are mapped.
use Rattle.map_blocks.proofs.strip.Blocks.{Mapped}
use Rattle.map_blocks.proofs.strip.map_blocks.Given as goal

abbrev pub invariant-loop-i : goal.invariant-loop-i
invariant-loop-i l = Mapped l.strip l.shades l.count l.initial.index l.index l.errors l.i
