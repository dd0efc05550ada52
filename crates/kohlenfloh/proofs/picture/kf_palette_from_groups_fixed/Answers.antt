-- `kf_palette_from_groups_fixed` meets its contract: what `palette_from_groups_fixed` answers and leaves crosses, from
-- the record that `record_in` read.
use Rattle.kohlenfloh.proofs.Arrays.{palette-crosses}
use Rattle.kohlenfloh.proofs.picture.kf_palette_from_groups_fixed.Goals as goal

pub returns : goal.returns
returns c =
    rw c.record_in-table.ensures at (palette-crosses c.palette_from_groups_fixed-answer.ensures c.number.ensures)
