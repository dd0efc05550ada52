-- `slot_for` meets its contract: the slot is one where the key stands, or the next.
use Rattle.map_slots.specs.{there}
use Rattle.map_join.proofs.keys.slot_for.Goals as goal

pub returns-then-taken-slot : goal.returns-then-taken-slot
returns-then-taken-slot c = there c.if-slot-taken.true c.if-taken-slot.true
