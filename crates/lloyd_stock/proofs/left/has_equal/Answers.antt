-- `has_equal` looks for the shade's key among those before it.
use Rattle.std.proofs.Common.{eqb, refl, ap, ◌∙◌, rules, tests, arith}
use Rattle.std.proofs.lemmas.Iterator.{YieldsList-from_range}
use Rattle.std.proofs.lemmas.Iterator.Search.{any_from_yields_List}
use Rattle.lloyd_stock.specs.Keys.{fixed_key, among}
use Rattle.lloyd_stock.proofs.Matches.{any-among}
use Rattle.lloyd_stock.proofs.left.has_equal.Goals as goal

pub returns : goal.returns
returns c =
    let a = c.args in
    let keys = fixed_key a.fixed.now in
    any_from_yields_List (λ i. eqb (keys i) c.fixed_key-key.result) _ _ _ c.any.ensures.ran
    (YieldsList-from_range 0 a.q a.q refl (omega arith)) (λ x b q k. search (rules, tests))
    ∙ any-among a.q keys _ ∙ ap (among a.q keys) c.fixed_key-key.ensures
