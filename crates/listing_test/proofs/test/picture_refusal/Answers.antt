-- Past the tests of the header and the size `picture_refusal` refuses what p6 refuses.
use Rattle.std.proofs.Common.{sym, ap, ◌∙◌, arith}
use Rattle.std.proofs.lemmas.Result.{err_from_is_err_and}
use Rattle.p6.specs.{refusal_in}
use Rattle.listing_test.proofs.Smalls.{small-rest}
use Rattle.listing_test.proofs.test.picture_refusal.Goals as goal

pub returns-in_err-read_picture : goal.returns-in_err-read_picture
returns-in_err-read_picture c =
    let gave = err_from_is_err_and c.from_residual.result c.from_residual.ensures.1 in
    rw (gave.1, gave.2)
    (ap refusal_in c.in_err-read_picture.ensures
    ∙ small-rest c.args.picture.now _ _ _ _ (sym c.in-Ok.ensures) (sym c.if-bad_size.ensures) (omega arith))

pub returns : goal.returns
returns c =
    ap refusal_in c.in_ok-read_picture.ensures
    ∙ small-rest c.args.picture.now _ _ _ _ (sym c.in-Ok.ensures) (sym c.if-bad_size.ensures) (omega arith)
