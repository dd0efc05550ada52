-- `kf_add_strip` meets its contract: what `add_strip` answers and leaves crosses, from the record that `record_in`
-- read.
use mathlib.Core.Path.{◌∙◌}
use Rattle.kohlenfloh.proofs.Arrays.{add-crosses}
use Rattle.kohlenfloh.proofs.add.kf_add_strip.Goals as goal

pub returns : goal.returns
returns c =
    add-crosses
    c.record_in.ensures
    c.add_strip-a.ensures
    c.record_left.ensures
    (c.from.ensures ∙ c.number_in.ensures)
