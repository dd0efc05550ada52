-- `set_all` meets its contract: the front is one value, repeated.
use Rattle.std.proofs.Common.{◌≡◌, length, length-take, take, ℕ, arith}
use Rattle.shades.proofs.Repeats.{repeated}
use Rattle.shades.proofs.set.set_all.Goals as goal

pub returns : goal.returns
returns c =
    let d = c.args.d.now in
    let front : length (take c.args.count d) ≡ c.args.count = omega (arith, length-take {A = ℕ}) in
    rw (c.fill.ensures.after (λ y e. e), front) (repeated c.args.count c.args.value d c.requires)
