-- `short_square` answers `sq`: the square of the signed difference has no sign.
use Rattle.std.proofs.Common.{refl}
use Rattle.colour.proofs.Signs.{short-square-is, square-most, square-same}
use Rattle.colour.proofs.grid.short_square.Goals as goal

pub returns : goal.returns
returns c =
    let a = c.args.a in
    let b = c.args.b in
    rw (c.from-d.ensures, short-square-is a b c.requires.0 c.requires.1, square-same a b c.requires.0 c.requires.1)
    (refl, square-most a b c.requires.0 c.requires.1)
