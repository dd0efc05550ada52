-- `kf_map_strip` meets its contract: what `map_strip` answers and leaves crosses.
use Rattle.std.proofs.Common.{sym, ap, ◌∙◌}
use Rattle.refusal.specs.{number_in}
use Rattle.mapping.specs.{refusal_in}
use Rattle.kohlenfloh.proofs.Arrays.{map-crosses}
use Rattle.kohlenfloh.proofs.picture.kf_map_strip.Goals as goal

pub returns-in-Ok : goal.returns-in-Ok
returns-in-Ok c =
    map-crosses c.map_strip-mapped.ensures c.map_numbers.ensures c.map_figures.ensures
    (ap (λ a. number_in (refusal_in a)) (sym c.in-Ok.is))

pub returns-in-Err : goal.returns-in-Err
returns-in-Err c =
    map-crosses c.map_strip-mapped.ensures c.map_numbers.ensures c.map_figures.ensures
    (c.from-in-Err.ensures ∙ c.from.ensures ∙ ap (λ a. number_in (refusal_in a)) (sym c.in-Err.is))
