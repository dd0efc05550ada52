-- `run_fixed` meets its contract: where it is not refused, what it makes is the run from the fixed shades.
use mathlib.Core.Path.{◌≡◌, refl, sym, ap, subst, ◌∙◌}
use native.Mathlib.Omega.{arith}
use lib.ListN.{length, take}
use Rattle.colour.specs.{Bytes}
use Rattle.shades.specs.{OnGrid}
use Rattle.lloyd_stock.specs.{stock}
use Rattle.lloyd_stock.proofs.Promises.{stock-length, stock-low, stock-laid}
use Rattle.lloyd_fixed.proofs.Wholes.{good-of-none, fixed-most, some-free, fixed-able, fixed-meets-made}
use Rattle.lloyd_fixed.proofs.call.run_fixed.Goals as goal

pub run_from-a-requires : goal.run_from-a-requires
run_from-a-requires c =
    let s = c.args in
    let fixed = s.fixed.now in
    let good = good-of-none s.rec s.keys.now s.weights.now fixed s.count s.limit s.members.now s.totals.now
    (sym c.in_ok-fixed_refusal.ensures) in
    let most = fixed-most s.rec s.keys.now s.weights.now fixed s.count s.limit s.members.now s.totals.now good in
    let free = some-free s.rec s.keys.now s.weights.now fixed s.count s.limit s.members.now s.totals.now good in
    let laid : take (length fixed) c.lay_stock.new.base ≡ stock fixed =
    ap (take (length fixed)) c.lay_stock.ensures ∙ stock-laid fixed _ (omega (arith, most.1)) in
    let bytes : Bytes fixed = λ i. omega (arith, c.type_inv.fixed i) in (
      rw c.limit_of-rounds.ensures
          (fixed-able s.rec s.keys.now s.weights.now fixed s.count s.limit s.members.now s.totals.now good),
      subst OnGrid (sym laid) (stock-low fixed bytes),
      omega (arith, ap length laid, stock-length fixed, most.0),
      omega (arith, free.0),
      refl,
    )

pub returns : goal.returns
returns c =
    let s = c.args in
    let fixed = s.fixed.now in
    let none = sym c.in_ok-fixed_refusal.ensures in
    let good = good-of-none s.rec s.keys.now s.weights.now fixed s.count s.limit s.members.now s.totals.now none in
    let most = fixed-most s.rec s.keys.now s.weights.now fixed s.count s.limit s.members.now s.totals.now good in
    let laid : take (length fixed) c.lay_stock.new.base ≡ stock fixed =
    ap (take (length fixed)) c.lay_stock.ensures ∙ stock-laid fixed _ (omega (arith, most.1)) in
    fixed-meets-made s.rec s.keys.now s.weights.now fixed s.count s.limit s.members.now s.totals.now _ _ laid
    c.limit_of-rounds.ensures _ _ _ _ _ _ _ none c.run_from-a.ensures.series
    c.run_from-a.ensures.total refl
