-- `search_all` searches block after block: its invariant is `Searched`.
use Rattle.std.proofs.Common.{◌≡◌, ◌∙◌, min, refl, ap, arith}
use Rattle.number.specs.{fill}
use Rattle.shades.specs.{colour_at, packed_nearest}
use Rattle.search_all.proofs.all.Blocks.{searched-start, searched-step}
use Rattle.search_all.proofs.all.search_all.Goals as goal

pub loop-start-init : goal.loop-start-init
loop-start-init c =
    let a = c.args in
    let none : min a.used 0 ≡ 0 = omega arith in (
      rw none (searched-start a.shades.now a.count a.keys.now a.used a.members.now),
      record { red = refl; green = refl; blue = refl },
    )

pub loop-start-preserved : goal.loop-start-preserved
loop-start-preserved c =
    let l = c.loop-start in
    let first : min c.args.used l.start ≡ l.start = omega arith in
    let w = rw first at l.invariant.0 in
    let long = c.search_block.auto in (
      rw (← c.min-end.ensures)
          (searched-step w c.min-end.result (omega arith) (omega arith) c.requires.1 c.search_block.ensures),
      record {
        red = long.reds ∙ l.invariant.1.red;
        green = long.greens ∙ l.invariant.1.green;
        blue = long.blues ∙ l.invariant.1.blue;
      },
    )

pub returns-2 : goal.returns-2
returns-2 c =
    let a = c.args in
    let l = c.loop-start in
    let first : min a.used l.start ≡ l.start = omega arith in
    let last : c.min-end.result ≡ a.used = omega arith in
    let w = rw first at l.invariant.0 in
    (searched-step w c.min-end.result (omega arith) (omega arith) c.requires.1 c.search_block.ensures).is
    ∙ ap (λ n. fill n (λ i. packed_nearest a.shades.now a.count (colour_at a.keys.now i)) a.members.now) last
