-- `make_rounds` meets its contract: each round goes on from the one before, and the first quiet one is the last.
use Rattle.std.proofs.Common.{arith}
use Rattle.method.specs.{kind_of, holding}
use Rattle.method.proofs.Rules.{kind-good, holding-good}
use Rattle.method.proofs.Sizes.{fair-of-table}
use Rattle.group_sums.proofs.Summing.{summed-none}
use Rattle.moves.specs.{leaps}
use Rattle.rounds_many.proofs.Turns.{
  after-walkable,
  made_start,
  made-counted,
  made-more,
  moving-more,
  settled-here,
  all-moving,
}
use Rattle.rounds_many.proofs.many.make_rounds.Goals as goal

pub loop-r-init : goal.loop-r-init
loop-r-init c = record {
  made = made_start _ _ _ _ _;
  moving = λ n h. absurd (omega arith);
  summed = summed-none _ _ _;
}

pub next_step-a-requires : goal.next_step-a-requires
next_step-a-requires c =
    let a = c.args in
    let l = c.loop-r.invariant in
    let rule = holding a.held (kind_of (leaps a.stride)) in (
      rw l.made.state (after-walkable rule (holding-good a.held (kind-good (leaps a.stride))) c.requires.0 _),
      c.requires.1,
      omega (arith, c.requires.0.steppable.fit.shades.few),
      l.summed,
    )

pub overflow_add-distances : goal.overflow_add-distances
overflow_add-distances c =
    let p = c.requires.0.steppable in
    omega (
      arith,
      made-counted _ _ _ _ c.loop-r.invariant.made c.loop-r-test.true c.requires.3 (fair-of-table p.table)
          p.fit.shades.few _ c.next_step-a.ensures.step.distances_is,
    )

pub returns-then-moved-eq0 : goal.returns-then-moved-eq0
returns-then-moved-eq0 c =
    settled-here _ _ _ _ c.loop-r.invariant.made c.next_step-a.ensures.step (omega (arith, c.requires.4))
    c.loop-r-test.true c.loop-r.invariant.moving c.if-moved-eq0.true

pub loop-r-preserved : goal.loop-r-preserved
loop-r-preserved c =
    let l = c.loop-r.invariant in
    let m = c.next_step-a.ensures.step in
    record {
      made = made-more _ _ _ _ l.made m (omega (arith, c.requires.4));
      moving = moving-more _ _ _ _ l.made m (omega (arith, c.requires.4)) l.moving c.if-moved-eq0.false;
      summed = c.next_step-a.ensures.sums;
    }

pub returns : goal.returns
returns c =
    all-moving _ _ _ _ c.loop-r.invariant.made (omega (arith, c.loop-r-test.false)) c.loop-r.invariant.moving
