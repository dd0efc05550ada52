use Rattle.std.proofs.Common.{ℕ, ◌+◌, ◌*◌, ◌≤◌, ◌∙◌, List, get_or, arith}
use Rattle.map_slots.specs.{slot_of}
use Rattle.map_errors.proofs.Settling.{Settled, settled-start, settled-small, settled-step}
use Rattle.map_tell.specs.Telling.{told_of}
use Rattle.map_tell.proofs.Tells.{told-first}
use Rattle.map_tell.proofs.tell.add_told.Goals as goal

-- the errors so far are small
small : (which told : List ℕ) → ((k : ℕ) → get_or told k 0 ≤ 4294967295) → {before index : List ℕ}
    {red green blue i : ℕ}
    → let x = told_of which told in
    Settled (x 3) (x 0) (x 1) (x 2) before index red green blue i
    → (red ≤ i * 4294967295) × (green ≤ i * 4294967295) × (blue ≤ i * 4294967295)
small which told word w =
    settled-small w 4294967295 (λ j l.
    let at = 4 * slot_of which j in
    (word (at + 0), word (at + 1), word (at + 2)))

pub loop-i-init : goal.loop-i-init
loop-i-init c = settled-start _ _ _ _ _

pub overflow_add-red : goal.overflow_add-red
overflow_add-red c =
    let word = λ (k : ℕ). c.type_inv.told k in
    let low = small c.args.which.now c.args.told.now (λ k. omega (arith, word k)) c.loop-i.invariant in
    omega (arith, low.0, c.requires.few, word (4 * c.from-at.result), c.from-red.ensures)

pub overflow_add-green : goal.overflow_add-green
overflow_add-green c =
    let word = λ (k : ℕ). c.type_inv.told k in
    let low = small c.args.which.now c.args.told.now (λ k. omega (arith, word k)) c.loop-i.invariant in
    omega (arith, low.1, c.requires.few, word (4 * c.from-at.result + 1), c.from-green.ensures)

pub overflow_add-blue : goal.overflow_add-blue
overflow_add-blue c =
    let word = λ (k : ℕ). c.type_inv.told k in
    let low = small c.args.which.now c.args.told.now (λ k. omega (arith, word k)) c.loop-i.invariant in
    omega (arith, low.2, c.requires.few, word (4 * c.from-at.result + 2), c.from-blue.ensures)

pub loop-i-preserved : goal.loop-i-preserved
loop-i-preserved c =
    let slot = c.from-at.ensures in
    rw slot
    (settled-step c.loop-i.invariant (omega arith)
    ((rw slot at c.from-red.ensures) ∙ told-first c.args.told.now _) (rw slot at c.from-green.ensures)
    (rw slot at c.from-blue.ensures))
