-- `group_plain` meets its contract: the loop begins with the members in which the search has left what it found.
use Rattle.std.proofs.Common.{◌≡◌, refl, arith}
use Rattle.group_sums.proofs.Summing.{summed-none}
use Rattle.group_join.proofs.Turns.{turned-start, turned-step, turned-done, total-fits, distances-fit, grouped-again}
use Rattle.group_all.proofs.plain.Founds.{plain-fitted, plain-found}
use Rattle.group_all.proofs.plain.Raising.{raised-low, raised-finds, raised-fit, raised-step}
use Rattle.group_all.proofs.plain.group_plain.Goals as goal

pub loop-i-init : goal.loop-i-init
loop-i-init c =
    let p = c.requires in
    record {
      turned = turned-start (plain-fitted _ c.args.members.now p.0 p.1 p.2 p.3 c.search_all.ensures);
      summed = rw p.4 (summed-none _ _ _);
    }

pub gift_of-a-requires : goal.gift_of-a-requires
gift_of-a-requires c =
    let x = c.loop-i.invariant.turned in
    raised-low x c.loop-i-test.true _
    (plain-found x c.args.members.now c.search_all.ensures c.loop-i-test.true c.requires.3)

pub overflow_add-total : goal.overflow_add-total
overflow_add-total c =
    let x = c.loop-i.invariant.turned in
    let h = c.loop-i-test.true in
    let e = c.gift_of-a.ensures in
    let f = plain-found x c.args.members.now c.search_all.ensures h c.requires.3 in
    omega (arith, total-fits x h (raised-finds x h _ _ _ f e.number e.cost))

pub overflow_add-distances : goal.overflow_add-distances
overflow_add-distances c =
    omega (arith, distances-fit c.loop-i.invariant.turned c.loop-i-test.true c.args.count refl)

pub raise-requires : goal.raise-requires
raise-requires c =
    let x = c.loop-i.invariant.turned in
    let h = c.loop-i-test.true in
    let e = c.gift_of-a.ensures in
    let f = plain-found x c.args.members.now c.search_all.ensures h c.requires.3 in
    raised-fit x h c.loop-i.invariant.summed (raised-finds x h _ _ _ f e.number e.cost) e.first e.second

pub loop-i-preserved : goal.loop-i-preserved
loop-i-preserved c =
    let x = c.loop-i.invariant.turned in
    let h = c.loop-i-test.true in
    let e = c.gift_of-a.ensures in
    let f = plain-found x c.args.members.now c.search_all.ensures h c.requires.3 in
    let g = raised-finds x h _ _ _ f e.number e.cost in
    record {
      turned = turned-step x h g _ refl;
      summed = raised-step x h c.loop-i.invariant.summed g e.first e.second _ c.raise.ensures;
    }

pub returns-clause-grouped : goal.returns-clause-grouped
returns-clause-grouped c =
    let x = c.loop-i.invariant in
    let h = c.loop-i-test.false in
    let e : c.loop-i.i ≡ c.args.used = omega (arith, x.turned.within) in
    grouped-again _ _ c.search_all.ensures (turned-done x.turned h (rw e at x.summed))
