-- `take_many`: each turn is a step of `Steps.antt`.
use Rattle.std.proofs.Common.{◌≡◌, ◌+◌, ◌≤◌, arith}
use Rattle.table_fill.proofs.take.Steps.{steps_low, steps-in, steps-full, steps-done}
use Rattle.table_fill.proofs.take.take_many.Goals as goal

pub add-sums-requires : goal.add-sums-requires
add-sums-requires c =
    let e = c.add_some-got.ensures in
    steps_low c.requires c.loop-taken.invariant.taking e (omega (arith, e.within))

pub loop-taken-preserved-then-next-room : goal.loop-taken-preserved-then-next-room
loop-taken-preserved-then-next-room c =
    let e = c.add_some-got.ensures in
    let i = c.loop-taken.invariant in
    let inside : c.loop-taken.taken + c.add_some-got.result.pixels ≤ c.args.end = omega (arith, e.within) in
    record {
      within = inside;
      some = λ h. i.some c.loop-taken-test.true;
      taking = rw c.add-sums.ensures (steps-in c.requires i.taking e inside (λ j. omega (arith, c.type_inv.strip j))
          c.if-next-room.true);
    }

pub returns-then-pixels-lt2 : goal.returns-then-pixels-lt2
returns-then-pixels-lt2 c =
    let e = c.add_some-got.ensures in
    let one : c.add_some-got.result.pixels ≡ 1 = omega (arith, e.some) in
    steps-full c.requires c.loop-taken.invariant.taking e (omega arith) one c.if-next-room.false

pub returns : goal.returns
returns c = steps-done c.requires c.loop-taken.invariant.taking c.loop-taken-test.false
