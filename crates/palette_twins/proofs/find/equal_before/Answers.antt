-- `equal_before` meets its contract: the entry found is the first with the same key.
use Rattle.std.proofs.Common.{◌≡◌, arith, rules, tests}
use Rattle.std.proofs.lemmas.Iterator.{first_from_Range}
use Rattle.palette_twins.specs.Sites.{entry_key}
use Rattle.palette_twins.proofs.Finds.{answered}
use Rattle.palette_twins.proofs.find.equal_before.Goals as goal

pub returns : goal.returns
returns c =
    let p = c.args.palette.now in
    let q = c.args.q in
    answered p q c.find.result (λ i. omega (arith, c.type_inv.palette i))
    (first_from_Range _ _ _ _ (λ i. entry_key p i ≡ entry_key p q) (λ i. ¬ (entry_key p i ≡ entry_key p q))
    c.find.ensures.ran (λ x r k. search (rules, tests)) (λ x r k. search (rules, tests)))
