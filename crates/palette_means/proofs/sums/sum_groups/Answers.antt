use Rattle.std.proofs.Common.{arith}
use Rattle.level_sums.proofs.Bounds.{weight-at-most}
use Rattle.group_sums.proofs.Bounds.{raises-fit}
use Rattle.group_sums.proofs.Summing.{summed-none, summed-more}
use Rattle.palette_means.proofs.sums.sum_groups.Goals as goal

pub loop-i-init : goal.loop-i-init
loop-i-init c = rw c.requires.2 (summed-none _ _ _)

pub red_green-first-requires : goal.red_green-first-requires
red_green-first-requires c = omega (arith, weight-at-most _ _ _ c.requires.0 _ c.loop-i-test.true)

pub blue_pixels-second-requires : goal.blue_pixels-second-requires
blue_pixels-second-requires c = omega (arith, weight-at-most _ _ _ c.requires.0 _ c.loop-i-test.true)

pub raise-requires : goal.raise-requires
raise-requires c =
    let few = c.requires.1.below _ c.loop-i-test.true in
    let fit = raises-fit _ _ _ c.requires.0 _ _ c.loop-i-test.true few c.loop-i.invariant in
    rw (c.blue_pixels-second.ensures, c.red_green-first.ensures) (few, fit.0, fit.1)

pub loop-i-preserved : goal.loop-i-preserved
loop-i-preserved c =
    let few = c.requires.1.below _ c.loop-i-test.true in
    rw (c.raise.ensures, c.blue_pixels-second.ensures, c.red_green-first.ensures)
    (summed-more _ _ _ c.loop-i.i _ c.loop-i.invariant few)
