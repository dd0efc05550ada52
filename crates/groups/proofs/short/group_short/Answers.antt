-- `group_short` meets its contract: the distances are those of the shortened search.
use Rattle.std.proofs.Common.{arith}
use Rattle.group_join.specs.{anew}
use Rattle.group_join.proofs.Turns.{
  finds-of,
  turned-start,
  turned-low,
  turned-step,
  turned-done,
  turned-distances,
  number-below,
  total-fits,
  distances-fit,
}
use Rattle.groups.proofs.short.Formers.{short-fitted, short-again, short-worked, short-assigned}
use Rattle.groups.proofs.short.Joining.{joined-sums}
use Rattle.groups.proofs.short.group_short.Goals as goal

pub loop-i-init : goal.loop-i-init
loop-i-init c = record { turned = turned-start (short-fitted c.requires.0); summed = c.requires.2 }

pub rejoin-met-requires : goal.rejoin-met-requires
rejoin-met-requires c =
    (short-again c.requires.0 c.loop-i.invariant.turned, c.requires.1, c.loop-i-test.true)

pub cost-total-requires : goal.cost-total-requires
cost-total-requires c = turned-low c.loop-i.invariant.turned c.loop-i-test.true _ c.rejoin-met.ensures.distance

pub overflow_add-total : goal.overflow_add-total
overflow_add-total c =
    let e = c.rejoin-met.ensures in
    omega (
      arith,
      total-fits c.loop-i.invariant.turned c.loop-i-test.true (finds-of e.number e.distance c.cost-total.ensures),
    )

pub overflow_add-distances : goal.overflow_add-distances
overflow_add-distances c =
    let x = c.loop-i.invariant.turned in
    omega (
      arith,
      distances-fit x c.loop-i-test.true _ (short-worked c.requires.0 x _ c.rejoin-met.ensures.distances),
    )

pub join-requires : goal.join-requires
join-requires c =
    let x = c.loop-i.invariant.turned in
    let h = c.loop-i-test.true in (
      x.fitted.table,
      short-assigned c.requires.0 x,
      c.loop-i.invariant.summed,
      h,
      rw c.rejoin-met.ensures.number (number-below x h),
    )

pub loop-i-preserved : goal.loop-i-preserved
loop-i-preserved c =
    let x = c.loop-i.invariant.turned in
    let e = c.rejoin-met.ensures in
    let g = finds-of e.number e.distance c.cost-total.ensures in
    record {
      turned = rw c.join.ensures.members
          (turned-step x c.loop-i-test.true g _ (short-worked c.requires.0 x _ e.distances));
      summed = c.join.ensures.sums;
    }

pub returns : goal.returns
returns c =
    let x = c.loop-i.invariant.turned in
    let h = c.loop-i-test.false in
    record {
      grouped = turned-done x h (joined-sums (anew c.args.follow) x h c.loop-i.invariant.summed);
      distances = turned-distances x h;
    }
