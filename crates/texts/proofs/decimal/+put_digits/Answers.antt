-- `put_digits` meets its contract: the digits before the last are put first.
use Rattle.std.proofs.Common.{◌-◌, ◌/◌, arith}
use Rattle.grammar.proofs.Texts.{short-digit, short-more, short-most}
use Rattle.texts.proofs.Texts.{put-length, put_then}
use Rattle.texts.proofs.decimal.+put_digits.Goals as goal

pub returns-then-value-lt10 : goal.returns-then-value-lt10
returns-then-value-lt10 t c =
    rw (short-digit c.args.most c.args.value c.requires.0 c.if-value-lt10.true) c.put_byte.ensures

-- there is room behind the digits put
pub put_byte-requires-2 : goal.put_byte-requires-2
put_byte-requires-2 t c =
    let p = c.put_digits-next.ensures in
    let m = short-most (c.args.most - 1) (c.args.value / 10) in
    omega (arith, p.ends, put-length p, m, c.requires.0, c.requires.2)

pub returns : goal.returns
returns t c =
    rw (short-more c.args.most c.args.value c.requires.0 c.if-value-lt10.false)
    (put_then c.put_digits-next.ensures c.put_byte-2.ensures)
