-- `add_strip` meets its contract: each way out is a law of `Adds.antt`.
use mathlib.Core.Path.{sym, ◌∙◌}
use native.Mathlib.Omega.{arith}
use Rattle.table.proofs.Adds.{
  meets-bad-strip,
  meets-bad-table,
  meets-full,
  meets-done,
  taken-few-enough,
  sums-small,
}
use Rattle.table.proofs.add.add_strip.Goals as goal

pub returns-then-strip-ne0 : goal.returns-then-strip-ne0
returns-then-strip-ne0 c = meets-bad-strip _ _ _ _ c.if-strip-ne0.true c.refused.ensures

pub returns-then-bad_table : goal.returns-then-bad_table
returns-then-bad_table c =
    meets-bad-table _ _ _ _ c.if-strip-ne0.false (sym c.bad_table.ensures ∙ c.if-bad_table.true)
    c.refused-then-bad_table.ensures

pub overflow_add-after : goal.overflow_add-after
overflow_add-after c =
    let few = taken-few-enough c.args.rec c.args.keys.now c.args.weights.now c.args.strip.now c.if-strip-ne0.false
    (sym c.bad_table.ensures ∙ c.if-bad_table.false) (rw c.room_of-room.ensures at c.take_strip-took.ensures) in
    omega arith

pub overflow_add-after-2 : goal.overflow_add-after-2
overflow_add-after-2 c =
    let small = sums-small c.args.rec c.args.keys.now c.args.weights.now c.args.strip.now c.if-strip-ne0.false
    (sym c.bad_table.ensures ∙ c.if-bad_table.false) (rw c.room_of-room.ensures at c.take_strip-took.ensures) in
    omega (arith, small.0)

pub overflow_add-after-3 : goal.overflow_add-after-3
overflow_add-after-3 c =
    let small = sums-small c.args.rec c.args.keys.now c.args.weights.now c.args.strip.now c.if-strip-ne0.false
    (sym c.bad_table.ensures ∙ c.if-bad_table.false) (rw c.room_of-room.ensures at c.take_strip-took.ensures) in
    omega (arith, small.1)

pub overflow_add-after-4 : goal.overflow_add-after-4
overflow_add-after-4 c =
    let small = sums-small c.args.rec c.args.keys.now c.args.weights.now c.args.strip.now c.if-strip-ne0.false
    (sym c.bad_table.ensures ∙ c.if-bad_table.false) (rw c.room_of-room.ensures at c.take_strip-took.ensures) in
    omega (arith, small.2)

pub returns-then-taken-count : goal.returns-then-taken-count
returns-then-taken-count c =
    meets-full _ _ _ _ c.if-strip-ne0.false (sym c.bad_table.ensures ∙ c.if-bad_table.false)
    (rw c.room_of-room.ensures at c.take_strip-took.ensures) c.if-taken-count.true

pub returns : goal.returns
returns c =
    meets-done _ _ _ _ c.if-strip-ne0.false (sym c.bad_table.ensures ∙ c.if-bad_table.false)
    (rw c.room_of-room.ensures at c.take_strip-took.ensures) c.if-taken-count.false
