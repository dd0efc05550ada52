-- The digits at the front of at most five bytes from `at` on.
use Rattle.std.proofs.Common.{take, drop, ◌∙◌, arith, rules, tests}
use Rattle.std.proofs.lemmas.Iterator.{YieldsList-from_slice, YieldsList-from_take}
use Rattle.std.proofs.lemmas.Iterator.Adapters.{YieldsList-from_skip}
use Rattle.std.proofs.lemmas.Iterator.Consumers.{count_from_yields_List}
use Rattle.std.proofs.lemmas.Iterator.Search.{YieldsList-from_take_while}
use Rattle.std.proofs.lemmas.List.Folds.{length-prefix_len}
use Rattle.grammar.specs.Bytes.{is_digit}
use Rattle.grammar.proofs.Spans.{nothing-digit, front-span, span-at-most}
use Rattle.grammar.proofs.decimal.count_digits.Goals as goal

pub returns : goal.returns
returns c =
    let s = c.args.input.now in
    let at = c.args.at in
    let counted =
    count_from_yields_List c.take_while.result _ c.count.ensures.ran
    (YieldsList-from_take_while _ is_digit
    (YieldsList-from_take 5 (YieldsList-from_skip at (YieldsList-from_slice s (cc)) (cc)) (cc))
    c.take_while.ensures.closure c.take_while.ensures.done (λ x b q k. search (rules, tests))) in
    let e = counted ∙ length-prefix_len is_digit (take 5 (drop at s)) ∙ front-span is_digit nothing-digit 5 s at in
    (e, omega (arith, e, span-at-most is_digit 5 s at))
