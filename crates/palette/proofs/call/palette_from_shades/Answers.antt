-- `palette_from_shades` meets its contract: each way out is a law of `Ways`, with what the tests before it said.
use Rattle.std.proofs.Common.{sym, ◌∙◌, arith}
use borrow.Author.Tests.{lt-ltb}
use Rattle.refusal.specs.{BadCount, BadCentre, ShortRoom}
use Rattle.shades.proofs.Checks.{bad-centre-exactly}
use Rattle.palette.proofs.Ways.{short-palette, palette-meets-refused, palette-meets-made}
use Rattle.palette.proofs.call.palette_from_shades.Goals as goal

pub returns-then-bad_coordinates : goal.returns-then-bad_coordinates
returns-then-bad_coordinates c =
    palette-meets-refused _ _ BadCount (simp (sym c.bad_coordinates.ensures ∙ c.if-bad_coordinates.true))

pub returns-then-bad_centre : goal.returns-then-bad_centre
returns-then-bad_centre c =
    palette-meets-refused _ _ BadCentre (simp (
      sym c.bad_coordinates.ensures ∙ c.if-bad_coordinates.false,
      sym c.bad_centre.ensures ∙ c.if-bad_centre.true,
    ))

pub returns-then-palette-coordinates : goal.returns-then-palette-coordinates
returns-then-palette-coordinates c =
    let whole = sym c.bad_coordinates.ensures ∙ c.if-bad_coordinates.false in
    palette-meets-refused _ _ ShortRoom (simp (
      whole,
      sym c.bad_centre.ensures ∙ c.if-bad_centre.false,
      short-palette c.args.coordinates.now c.args.palette.now whole ∙ lt-ltb _ _ c.if-palette-coordinates.true,
    ))

pub fill_palette-requires : goal.fill_palette-requires
fill_palette-requires c =
    ((bad-centre-exactly _).0 (sym c.bad_centre.ensures ∙ c.if-bad_centre.false), omega arith)

pub returns : goal.returns
returns c =
    palette-meets-made _ _ (sym c.bad_coordinates.ensures ∙ c.if-bad_coordinates.false)
    (sym c.bad_centre.ensures ∙ c.if-bad_centre.false) (omega arith) _ c.fill_palette.ensures
