-- `count_with` keeps `Counted`, whatever the weights are.
use Rattle.std.proofs.Common.{◌≡◌, ℕ, ◌+◌, ◌-◌, ◌≤◌, List, length, take, arith, rules, refl, sym, ap, ◌∙◌}
use Rattle.std.proofs.lemmas.List.{take_all}
use Rattle.table_count.proofs.Firsts.{Last, last-of}
use Rattle.table_count.proofs.count.Counting.{
  Counted,
  counted_start,
  counted-le,
  counted-end,
  counted-turn,
  byte-is-bit,
}
use Rattle.table_count.proofs.count.count_with.Goals as goal
use Rattle.table_count.proofs.count.count_with.Goals.{After-from-count}

pub loop-streak-init : goal.loop-streak-init
loop-streak-init c =
    let e : c.into_iter-streak-iterator.result.iter.rest.now ≡ c.args.list.now = search rules in
    let n : length c.into_iter-streak-iterator.result.iter.rest.now ≡ length c.args.list.now = ap length e in
    record {
      under = omega arith;
      first = e ∙ sym (take_all _ _ (omega arith));
      counted = λ ws h. rw n (counted_start c.args.keys.now ws c.args.used c.args.list.now (length c.args.list.now)
          c.requires.used_in_bounds.0 h refl);
    }

pub place_back-at-requires-clause-in_order : goal.place_back-at-requires-clause-in_order
place_back-at-requires-clause-in_order c = λ p q a b.
    c.requires.in_order p q a (omega (arith, c.loop-streak.invariant.under))

-- the streak is the last of those left
here : (c : After-from-count)
    → Last c.args.list.now c.loop-streak.streak-iterator.iter.rest.now c.next.new.self.iter.rest.now
    c.in-Some.field-0.now
here c = last-of c.loop-streak.invariant.first c.in-Some.ensures.steps

-- what holds after the turn
turn : (c : After-from-count) (ws : List ℕ) → c.args.used ≤ length ws
    → Counted c.args.keys.now ws c.args.used c.args.list.now c.place_back-at.result
    (c.loop-streak.count + c.from-count.result) c.streak_key-key.result
    (length c.loop-streak.streak-iterator.iter.rest.now - 1)
turn c ws h =
    counted-turn (c.loop-streak.invariant.counted ws h) c.requires.in_order_2 (here c).some
    (λ p q a b. c.requires.in_order p q a (omega (arith, c.loop-streak.invariant.under))) c.streak_key-key.result
    c.place_back-at.result c.first_key-first.result c.from-count.result (rw (here c).last at c.streak_key-key.ensures.0)
    c.place_back-at.ensures c.first_key-first.ensures (c.from-count.ensures ∙ byte-is-bit _)

pub overflow_add-count : goal.overflow_add-count
overflow_add-count c =
    let t = turn c c.args.keys.now c.requires.used_in_bounds.0 in
    omega (arith, counted-le t)

pub loop-streak-preserved : goal.loop-streak-preserved
loop-streak-preserved c =
    let n : length c.next.new.self.iter.rest.now ≡ length c.loop-streak.streak-iterator.iter.rest.now - 1
    = (here c).less in
    record {
      under = (turn c c.args.keys.now c.requires.used_in_bounds.0).under;
      first = (here c).rest;
      counted = λ ws h. rw n (turn c ws h);
    }

pub returns : goal.returns
returns c ws h =
    let e : take (length c.args.list.now) c.args.list.now ≡ c.args.list.now = take_all _ _ (omega arith) in
    rw e (counted-end {j = length c.loop-streak.streak-iterator.iter.rest.now} (c.loop-streak.invariant.counted ws h)
    c.in-None.ensures.steps.0)
