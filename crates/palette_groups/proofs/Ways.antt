-- The ways out of the call: where it is refused and where the palette is made, it meets its contract.
use Prim.Native.Nat.{ℕ, ◌*◌, ◌/◌, ◌≤◌}
use mathlib.Core.Bool.{false}
use mathlib.Core.List.{List}
use mathlib.Core.Path.{◌≡◌, refl}
use native.Mathlib.Omega.{arith}
use lib.ListN.{length}
use borrow.Author.Tests.{ltb-false}
use Rattle.std.specs.Prelude.{None, Some, Ok, Err}
use Rattle.refusal.specs.{Refusal, first_refusal}
use Rattle.table_test.specs.{Record, bad_table}
use Rattle.table_entries.specs.{Tabled, most_entries}
use Rattle.shades.specs.{most_coordinates, OnGrid, bad_coordinates, bad_centre}
use Rattle.shades.proofs.Checks.{bad-coordinates-exactly, bad-centre-exactly}
use Rattle.method.specs.{State}
use Rattle.group_sums.specs.{Assigned}
use Rattle.lloyd_tests.specs.{no_free, short_members, bad_member}
use Rattle.lloyd_tests.proofs.Checks.{bad-member-exactly}
use Rattle.lloyd_tests.proofs.Tables.{tabled-of-test}
use Rattle.palette.specs.{PaletteMeets, short_palette}
use Rattle.palette_means.specs.{group_palette}
use Rattle.palette_groups.specs.Fixed.{group_rows_fixed, palette_from_groups_fixed}
use Rattle.palette_groups.proofs.MeaningFixed.{groups-refuses-fixed}

module _ (f : ℕ) (rec : Record) (ks ws : List ℕ) (a : State) (d : List ℕ) where
  -- the tests of table, shades and rooms fail
  pub record RoomsGood : Type 0 where
    pub table : bad_table rec ks ws ≡ false
    pub count : bad_coordinates (length a.coordinates) ≡ false
    pub free : no_free f (length a.coordinates / 3) ≡ false
    pub centre : bad_centre a.coordinates ≡ false
    pub members_room : short_members rec a.members ≡ false
    pub palette_room : short_palette a.coordinates d ≡ false

  -- a call that is refused leaves the bytes as they came
  pub groups-meets-refused : (n : Refusal) → first_refusal (group_rows_fixed f rec ks ws a d) ≡ Some n
      → PaletteMeets (palette_from_groups_fixed f rec ks ws a d) (Err n) d
  groups-meets-refused n e =
      rw ((groups-refuses-fixed f rec ks ws a d).by_refusal n e) (record { answer = refl; palette_is = refl })

  module _ (g : RoomsGood) where
    -- what the test of the members asks
    pub members-asked : (rec.used ≤ length a.members) × (rec.used ≤ most_entries)
    members-asked = (
      ltb-false (length a.members) rec.used g.members_room,
      (tabled-of-test rec ks ws g.table).few,
    )

    module _ (below : bad_member rec.used (length a.coordinates / 3) a.members ≡ false) where
      -- a call that passes all tests makes the palette
      pub groups-meets-made : (x : List ℕ) → x ≡ group_palette f rec.used ks ws a d
          → PaletteMeets (palette_from_groups_fixed f rec ks ws a d) (Ok tt) x
      groups-meets-made x is =
          let none : first_refusal (group_rows_fixed f rec ks ws a d) ≡ None =
          simp (g.table, g.count, g.free, g.centre, g.members_room, g.palette_room, below) in
          rw ((groups-refuses-fixed f rec ks ws a d).by_none none) (record { answer = refl; palette_is = is })

      -- what the fill asks: a table, one of 64 groups for each entry, whole shades of the grid, and room
      pub fill-asked : Tabled rec.used ks ws × Assigned rec.used a.members × OnGrid a.coordinates
          × (length a.coordinates ≡ 3 * (length a.coordinates / 3))
          × (length a.coordinates ≤ most_coordinates) × (length a.coordinates ≤ length d)
      fill-asked =
          let whole = (bad-coordinates-exactly (length a.coordinates)).0 g.count in
          let each = (bad-member-exactly rec.used (length a.coordinates / 3) a.members).0 below in (
            tabled-of-test rec ks ws g.table,
            record { room = members-asked.0; below = λ i l. omega (arith, each i l, whole.1) },
            (bad-centre-exactly a.coordinates).0 g.centre,
            whole.2,
            omega (arith, whole.1, whole.2),
            omega (arith, whole.2, ltb-false (length d) (3 * (length a.coordinates / 3)) g.palette_room),
          )
