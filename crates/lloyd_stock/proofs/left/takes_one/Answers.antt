-- `takes_one` meets its contract: the key stands at its place exactly where it is one of the used ones.
use Rattle.std.proofs.Common.{not, sym, ap, ◌∙◌}
use Rattle.lloyd_stock.proofs.Lefts.{found_among}
use Rattle.lloyd_stock.proofs.left.takes_one.Goals as goal

pub returns-then-stands : goal.returns-then-stands
returns-then-stands c =
    let found = found_among c.requires.0 c.fixed_key-key.ensures c.stands.ensures in
    simp (sym found ∙ c.if-stands.true) (ap not c.has_equal.ensures)

pub returns-else-stands : goal.returns-else-stands
returns-else-stands c =
    let found = found_among c.requires.0 c.fixed_key-key.ensures c.stands.ensures in
    simp (sym found ∙ c.if-stands.false) c.if-stands.false
