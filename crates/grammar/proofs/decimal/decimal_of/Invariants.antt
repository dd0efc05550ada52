-- The value so far is that of the digits so far.
use Rattle.std.proofs.Common.{◌≡◌}
use Rattle.grammar.specs.Bytes.{byte_at}
use Rattle.grammar.specs.Decimals.{decimal}
use Rattle.grammar.proofs.decimal.decimal_of.Given as goal

abbrev pub invariant-loop-digit : goal.invariant-loop-digit
invariant-loop-digit l = l.value ≡ decimal l.digit-index (byte_at l.digits)
