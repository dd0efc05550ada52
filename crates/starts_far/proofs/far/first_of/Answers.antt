-- `first_of` passes places at which the distance is less than the greatest.
use Rattle.std.proofs.Common.{ℕ, ◌≤◌, ◌∙◌, get_or, ltb, below_more, arith}
use Rattle.number.specs.{most}
use Rattle.number.proofs.Peaks.{peak-at-least, most-is-peak, first-peak-is-most}
use Rattle.number.proofs.Searches.{first_below}
use Rattle.starts_far.proofs.far.first_of.Goals as goal

pub returns-then-d-i : goal.returns-then-d-i
returns-then-d-i c =
    let f : ℕ → ℕ = λ i. get_or c.args.d.now i 0 in
    let e = c.requires.2 in
    first-peak-is-most _ _ f c.loop-i-test.true (c.if-d-i.true ∙ e)
    (λ j h. rw e at (c.loop-i.invariant j h))

pub loop-i-preserved : goal.loop-i-preserved
loop-i-preserved c =
    let f : ℕ → ℕ = λ i. get_or c.args.d.now i 0 in
    let i = c.loop-i.i in
    let low = peak-at-least c.args.used i f c.loop-i-test.true in
    let h : f i ≤ c.args.far = rw c.requires.2 low in
    below_more _ _ c.loop-i.invariant (omega (arith, c.if-d-i.false))

pub returns : goal.returns
returns c =
    let f : ℕ → ℕ = λ i. get_or c.args.d.now i 0 in
    let n = c.args.used in
    let low = first_below (λ a b. ltb b a) n f c.requires.0 in
    let less = c.loop-i.invariant (most n f) (omega arith) in
    absurd (omega (arith, most-is-peak n f c.requires.0, c.requires.2))
