-- `palette_from_groups_fixed` meets its contract: each way out is a law of `Ways`, with what the tests before it said.
use Rattle.std.proofs.Common.{sym, ◌∙◌}
use borrow.Author.Tests.{lt-ltb, le-ltb, le-leb, lt-leb}
use Rattle.refusal.specs.{BadTable, BadCount, BadCentre, ShortRoom, BadMember}
use Rattle.method.specs.{state_of}
use Rattle.palette.proofs.Ways.{short-palette}
use Rattle.palette_groups.proofs.Ways.{
  groups-meets-refused,
  groups-meets-made,
  fill-asked,
}
use Rattle.palette_groups.proofs.call.palette_from_groups_fixed.Goals as goal

pub returns-then-bad_table : goal.returns-then-bad_table
returns-then-bad_table c =
    groups-meets-refused _ _ _ _ _ _ BadTable (simp (sym c.bad_table.ensures ∙ c.if-bad_table.true))

pub returns-then-bad_coordinates : goal.returns-then-bad_coordinates
returns-then-bad_coordinates c =
    groups-meets-refused _ _ _ _ _ _ BadCount (simp (
      sym c.bad_table.ensures ∙ c.if-bad_table.false,
      sym c.bad_coordinates.ensures ∙ c.if-bad_coordinates.true,
    ))

pub returns-then-coordinates-fixed : goal.returns-then-coordinates-fixed
returns-then-coordinates-fixed c =
    groups-meets-refused _ _ _ _ _ _ BadCount (simp (
      sym c.bad_table.ensures ∙ c.if-bad_table.false,
      sym c.bad_coordinates.ensures ∙ c.if-bad_coordinates.false,
      le-leb _ _ c.if-coordinates-fixed.true,
    ))

pub returns-then-bad_centre : goal.returns-then-bad_centre
returns-then-bad_centre c =
    groups-meets-refused _ _ _ _ _ _ BadCentre (simp (
      sym c.bad_table.ensures ∙ c.if-bad_table.false,
      sym c.bad_coordinates.ensures ∙ c.if-bad_coordinates.false,
      lt-leb _ _ c.if-coordinates-fixed.false,
      sym c.bad_centre.ensures ∙ c.if-bad_centre.true,
    ))

pub returns-then-members-used : goal.returns-then-members-used
returns-then-members-used c =
    groups-meets-refused _ _ _ _ _ _ ShortRoom (simp (
      sym c.bad_table.ensures ∙ c.if-bad_table.false,
      sym c.bad_coordinates.ensures ∙ c.if-bad_coordinates.false,
      lt-leb _ _ c.if-coordinates-fixed.false,
      sym c.bad_centre.ensures ∙ c.if-bad_centre.false,
      lt-ltb _ _ c.if-members-used.true,
    ))

pub returns-then-palette-coordinates : goal.returns-then-palette-coordinates
returns-then-palette-coordinates c =
    let count = sym c.bad_coordinates.ensures ∙ c.if-bad_coordinates.false in
    groups-meets-refused _ _ _ _ _ _ ShortRoom (simp (
      sym c.bad_table.ensures ∙ c.if-bad_table.false,
      count,
      lt-leb _ _ c.if-coordinates-fixed.false,
      sym c.bad_centre.ensures ∙ c.if-bad_centre.false,
      le-ltb _ _ c.if-members-used.false,
      short-palette c.args.coordinates.now c.args.palette.now count ∙ lt-ltb _ _ c.if-palette-coordinates.true,
    ))

pub returns-then-bad_member : goal.returns-then-bad_member
returns-then-bad_member c =
    let count = sym c.bad_coordinates.ensures ∙ c.if-bad_coordinates.false in
    groups-meets-refused _ _ _ _ _ _ BadMember (simp (
      sym c.bad_table.ensures ∙ c.if-bad_table.false,
      count,
      lt-leb _ _ c.if-coordinates-fixed.false,
      sym c.bad_centre.ensures ∙ c.if-bad_centre.false,
      le-ltb _ _ c.if-members-used.false,
      short-palette c.args.coordinates.now c.args.palette.now count ∙ le-ltb _ _ c.if-palette-coordinates.false,
      sym c.bad_member.ensures ∙ c.if-bad_member.true,
    ))

pub fill_by_groups-requires : goal.fill_by_groups-requires
fill_by_groups-requires c =
    let count = sym c.bad_coordinates.ensures ∙ c.if-bad_coordinates.false in
    fill-asked c.args.fixed c.args.rec _ _ (state_of c.args.coordinates.now c.args.members.now) c.args.palette.now
    (record {
      table = sym c.bad_table.ensures ∙ c.if-bad_table.false;
      count = count;
      free = lt-leb _ _ c.if-coordinates-fixed.false;
      centre = sym c.bad_centre.ensures ∙ c.if-bad_centre.false;
      members_room = le-ltb _ _ c.if-members-used.false;
      palette_room =
          short-palette c.args.coordinates.now c.args.palette.now count ∙ le-ltb _ _ c.if-palette-coordinates.false;
    })
    (sym c.bad_member.ensures ∙ c.if-bad_member.false)

pub returns : goal.returns
returns c =
    let count = sym c.bad_coordinates.ensures ∙ c.if-bad_coordinates.false in
    groups-meets-made _ _ _ _ _ _
    (record {
      table = sym c.bad_table.ensures ∙ c.if-bad_table.false;
      count = count;
      free = lt-leb _ _ c.if-coordinates-fixed.false;
      centre = sym c.bad_centre.ensures ∙ c.if-bad_centre.false;
      members_room = le-ltb _ _ c.if-members-used.false;
      palette_room =
          short-palette c.args.coordinates.now c.args.palette.now count ∙ le-ltb _ _ c.if-palette-coordinates.false;
    })
    (sym c.bad_member.ensures ∙ c.if-bad_member.false) _ c.fill_by_groups.ensures
