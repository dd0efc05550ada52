-- A number and the byte behind it, one put after the other.
use Rattle.std.proofs.Common.{arith}
use Rattle.grammar.proofs.Promises.{decimal-length}
use Rattle.texts.proofs.Texts.{put-length, put_then}
use Rattle.texts.proofs.decimal.put_number.Goals as goal

pub put_byte-requires : goal.put_byte-requires
put_byte-requires c =
    let p = c.put_digits-next.ensures in
    omega (arith, p.ends, put-length p, decimal-length c.args.value, c.requires)

pub returns : goal.returns
returns c = put_then c.put_digits-next.ensures c.put_byte.ensures
