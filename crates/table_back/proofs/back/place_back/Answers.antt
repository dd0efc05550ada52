-- `place_back`: the keys passed are not below the key, and `below_at` says which number is left.
use Rattle.std.proofs.Common.{sym, ◌∙◌, arith}
use Rattle.table_back.proofs.Places.{below_at}
use Rattle.table_back.proofs.back.Sixteens.{sixteens-passed}
use Rattle.table_back.proofs.back.Tests.{all-below}
use Rattle.table_back.proofs.back.place_back.Goals as goal

pub returns-then-clear : goal.returns-then-clear
returns-then-clear c =
    let s = c.args in
    below_at s.key s.i s.i s.keys.now c.requires.i_in_bounds (omega arith)
    (all-below s.keys.now s.i s.key c.requires.in_order (sym c.clear.ensures ∙ c.if-clear.true)) (λ l. omega arith)

pub loop-left-init : goal.loop-left-init
loop-left-init c = rw c.pass_sixteens-left.ensures (sixteens-passed c.args.keys.now c.args.i c.args.key)

pub returns : goal.returns
returns c =
    let s = c.args in
    let i = c.loop-left.invariant in
    below_at s.key s.i c.loop-left.left s.keys.now c.requires.i_in_bounds i.0
    (all-below s.keys.now c.loop-left.left s.key (λ p q h k. c.requires.in_order p q h (omega (arith, i.0)))
    (sym c.clear-in-loop-left.ensures ∙ c.loop-left-test.false)) i.1
