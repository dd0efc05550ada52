-- The value so far is that of digits, at most five, so it fits.
use Rattle.std.proofs.Common.{sym, arith}
use Rattle.grammar.specs.Bytes.{byte_at}
use Rattle.grammar.proofs.Decimals.{digit-range, decimal-start, decimal-more}
use Rattle.grammar.proofs.decimal.Parts.{value-few}
use Rattle.grammar.proofs.decimal.decimal_of.Goals as goal

pub loop-digit-init : goal.loop-digit-init
loop-digit-init c = sym (decimal-start (byte_at c.args.digits.now))

pub overflow_mul-value : goal.overflow_mul-value
overflow_mul-value c = omega (
  arith,
  value-few _ _ _ c.requires.all c.requires.few c.loop-digit.auto.digit-index-end
      c.loop-digit.invariant,
)

pub overflow_sub-digit : goal.overflow_sub-digit
overflow_sub-digit c = (digit-range _ (c.requires.all c.loop-digit.digit-index c.loop-digit-test.true)).0

pub overflow_add-value : goal.overflow_add-value
overflow_add-value c =
    omega (
      arith,
      (digit-range _ (c.requires.all c.loop-digit.digit-index c.loop-digit-test.true)).1,
      value-few _ _ _ c.requires.all c.requires.few c.loop-digit.auto.digit-index-end c.loop-digit.invariant,
    )

pub loop-digit-preserved : goal.loop-digit-preserved
loop-digit-preserved c =
    let more = decimal-more c.loop-digit.digit-index (byte_at c.args.digits.now) in
    rw (more, ← c.loop-digit.invariant, c.from.ensures)
