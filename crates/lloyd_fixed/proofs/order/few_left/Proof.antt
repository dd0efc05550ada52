-- `few_left` meets its contract: with as many used colours as shades there are enough left, else they are counted.
use Prim.Native.Nat.{◌-◌}
use mathlib.Core.Path.{sym, ap}
use native.Mathlib.Omega.{arith}
use lib.Dec.{ltb}
use borrow.Author.Tests.{le-ltb}
use borrow.Author.Rules.{rules}
use Rattle.lloyd_stock.specs.{fixed_in, colours_left}
use Rattle.lloyd_stock.proofs.Lefts.{left-at-least}
use Rattle.lloyd_fixed.proofs.order.few_left.Statement.{statement}
use Rattle.lloyd_fixed.proofs.order.few_left.Tie as tie

returns : tie.Need-returns-then-count-used
returns c =
    let fixed = c.args.fixed.now in
    let enough = left-at-least fixed (λ i. omega (arith, c.shared_slice_known-2-1.given i)) c.requires.0
    c.requires.1 in
    sym (le-ltb (colours_left c.args.rec.used c.args.keys.now fixed) (c.args.count - fixed_in fixed)
    (omega (arith, c.if-count-used.true, enough)))

colours-left-requires : tie.Need-colours_left-requires
colours-left-requires c κs = search rules

sub-result : tie.Need-overflow_sub-result
sub-result c = search rules

returns-2 : tie.Need-returns
returns-2 c =
    let a = c.args in
    ap (λ n. ltb n (a.count - fixed_in a.fixed.now)) c.colours_left.ensures

pub few_left_spec : {M : Type 1} → statement M
few_left_spec = tie.close (tie.spec returns colours-left-requires sub-result returns-2)
