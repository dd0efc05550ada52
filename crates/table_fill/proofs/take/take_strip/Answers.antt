-- `take_strip`: taking the pixels that the total allows is taking the strip.
use Rattle.std.proofs.Common.{◌-◌, arith}
use Rattle.colour.specs.{most_pixels}
use Rattle.table_entries.proofs.Strips.{strip-length}
use Rattle.table_fill.proofs.take.Steps.{steps-whole}
use Rattle.table_fill.proofs.take.take_strip.Goals as goal

pub returns-then-is_few : goal.returns-then-is_few
returns-then-is_few c =
    let n = strip-length c.args.count c.args.strip.now c.requires.strip_len in
    steps-whole c.min-end.result (λ h. omega (arith, h, n)) c.take_few.ensures

pub returns-then-count-space : goal.returns-then-count-space
returns-then-count-space c =
    let n = strip-length c.args.count c.args.strip.now c.requires.strip_len in
    steps-whole c.args.count (λ h. omega (arith, h, n)) c.take_many.ensures

pub returns : goal.returns
returns c = steps-whole (most_pixels - c.args.before) (λ h. omega arith) c.take_many-2.ensures
