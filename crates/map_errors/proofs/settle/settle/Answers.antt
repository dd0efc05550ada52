use Rattle.std.proofs.Common.{ℕ, ◌*◌, ◌≤◌, List, arith}
use Rattle.colour.specs.{most_coordinate, Bytes}
use Rattle.shades.specs.{OnGrid}
use Rattle.shades.proofs.Laying.{shade-within}
use Rattle.map_errors.specs.Missing.{pixel_at}
use Rattle.map_errors.specs.Finding.{found_number}
use Rattle.map_errors.proofs.Misses.{miss_at, misses-low}
use Rattle.map_errors.proofs.Pixels.{pixels-on-grid}
use Rattle.map_errors.proofs.Settling.{Settled, settled-start, settled-small, settled-step}
use Rattle.map_errors.proofs.settle.settle.Goals as goal

-- the errors so far are small
small : (strip which s best : List ℕ) → Bytes strip → OnGrid s → {before index : List ℕ} {red green blue i : ℕ}
    → let f = found_number which best in
    let c = pixel_at strip in
    Settled f (miss_at 0 c s f) (miss_at 1 c s f) (miss_at 2 c s f) before index red green blue i
    → let m = most_coordinate * most_coordinate in (red ≤ i * m) × (green ≤ i * m) × (blue ≤ i * m)
small strip which s best bytes low {i = i} w =
    settled-small w (most_coordinate * most_coordinate) (λ j l.
    misses-low most_coordinate (pixel_at strip) s (found_number which best) (λ q. shade-within s q low) j
    (pixels-on-grid strip i bytes j l))

pub loop-i-init : goal.loop-i-init
loop-i-init c = settled-start _ _ _ _ _

pub overflow_add-red : goal.overflow_add-red
overflow_add-red c =
    let bytes : Bytes c.args.strip.now = λ p. omega (arith, c.type_inv.strip p) in
    let low = small c.args.strip.now c.args.which.now c.args.shades.now c.args.best.now bytes c.requires.shades
    c.loop-i.invariant in
    omega (arith, low.0, c.requires.few, c.miss-red.ensures.1)

pub overflow_add-green : goal.overflow_add-green
overflow_add-green c =
    let bytes : Bytes c.args.strip.now = λ p. omega (arith, c.type_inv.strip p) in
    let low = small c.args.strip.now c.args.which.now c.args.shades.now c.args.best.now bytes c.requires.shades
    c.loop-i.invariant in
    omega (arith, low.1, c.requires.few, c.miss-green.ensures.1)

pub overflow_add-blue : goal.overflow_add-blue
overflow_add-blue c =
    let bytes : Bytes c.args.strip.now = λ p. omega (arith, c.type_inv.strip p) in
    let low = small c.args.strip.now c.args.which.now c.args.shades.now c.args.best.now bytes c.requires.shades
    c.loop-i.invariant in
    omega (arith, low.2, c.requires.few, c.miss-blue.ensures.1)

pub loop-i-preserved : goal.loop-i-preserved
loop-i-preserved c =
    let slot = c.from.ensures in
    rw slot
    (settled-step c.loop-i.invariant (omega arith) (rw slot at c.miss-red.ensures.0) (rw slot at c.miss-green.ensures.0)
    (rw slot at c.miss-blue.ensures.0))
