-- `take_few`: each turn is a step of `Steps.antt`.
use Rattle.std.proofs.Common.{◌≡◌, arith}
use Rattle.table_fill.proofs.take.Steps.{steps_low, steps-in-one, steps-full, steps-done}
use Rattle.table_fill.proofs.take.take_few.Goals as goal

pub returns-then-room-next : goal.returns-then-room-next
returns-then-room-next c =
    let e = c.add_one-got.ensures in
    let one : c.add_one-got.result.pixels ≡ 1 = omega (arith, e.some, e.within) in
    steps-full c.requires c.loop-taken.invariant e (omega arith) one c.if-room-next.true

pub add-sums-requires : goal.add-sums-requires
add-sums-requires c =
    let e = c.add_one-got.ensures in
    steps_low c.requires c.loop-taken.invariant e (omega (arith, e.some, e.within))

pub loop-taken-preserved : goal.loop-taken-preserved
loop-taken-preserved c =
    let e = c.add_one-got.ensures in
    let one : c.add_one-got.result.pixels ≡ 1 = omega (arith, e.some, e.within) in
    rw c.add-sums.ensures (steps-in-one c.requires c.loop-taken.invariant e (omega arith) one
    (λ i. omega (arith, c.type_inv.strip i)) c.if-room-next.false)

pub returns : goal.returns
returns c =
    let z : c.loop-taken.taken ≡ c.args.end = omega arith in
    rw z at (steps-done c.requires c.loop-taken.invariant (omega arith))
