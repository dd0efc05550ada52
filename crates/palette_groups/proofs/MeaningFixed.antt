-- The same where the first f shades are fixed: what is refused, what a palette made holds, and that with none fixed it
-- is the palette of groups.
use Prim.Native.Nat.{ℕ, ◌+◌, ◌*◌, ◌/◌, ◌%◌, ◌≤◌, ◌<◌}
use mathlib.Core.Bool.{false}
use mathlib.Core.List.{List}
use mathlib.Core.Logic.{◌↔◌}
use mathlib.Core.Path.{◌≡◌, refl, ap, ◌∙◌}
use native.Mathlib.Omega.{arith}
use lib.ListN.{length, get_or}
use borrow.Author.Tests.{ltb-false, le-ltb}
use Rattle.number.specs.{W, S, cost, rounded_mean, Nearest}
use Rattle.number.proofs.Cases.{neither, fail-together}
use Rattle.number.proofs.Fills.{fill-at, fill-kept, fill-at-most}
use Rattle.number.proofs.Promises.{rounded-mean-is-nearest, nearest-only, rounded-mean-best}
use Rattle.std.specs.Prelude.{None, Some}
use Rattle.std.specs.Result.{result_err}
use Rattle.refusal.specs.{Refusal, RefusesBy}
use Rattle.refusal.proofs.By.{refuses_by}
use Rattle.colour.specs.{Point, Bytes, most_level}
use Rattle.table_test.specs.{Record, bad_table}
use Rattle.shades.specs.{most_shades, axis, coordinate_of, OnGrid, bad_coordinates}
use Rattle.shades.proofs.Checks.{bad-coordinates-exactly, bad-centre-exactly}
use Rattle.shades.proofs.Laying.{axis-within, coordinate-at}
use Rattle.method.specs.{State, colours_of, Fit, Joined}
use Rattle.lloyd_tests.specs.{no_free, short_members}
use Rattle.lloyd_tests.proofs.Checks.{no-free-exactly, bad-member-exactly}
use Rattle.palette.specs.{PaletteOutcome, kept_palette, short_palette, level_of}
use Rattle.palette_means.specs.{group_entry, group_palette}
use Rattle.palette_means.proofs.Means.{entry-of-group, entry-of-none, entry-of-fixed, entry-within}
use Rattle.palette_groups.specs.Outcomes.{channel_group, short_rooms, made_by_groups, palette_from_groups}
use Rattle.palette_groups.specs.Fixed.{bad_group_count, group_rows_fixed, palette_from_groups_fixed}

-- ---- refusals

-- the test of BAD COUNT fails exactly where the coordinates are three for each of at most 64 shades and fewer are fixed
-- than there are shades
pub group-count-exactly : (f : ℕ) (a : State)
    → (bad_group_count f a ≡ false)
    ↔ ((f < length a.coordinates / 3) × (length a.coordinates / 3 ≤ most_shades)
    × (length a.coordinates ≡ 3 * (length a.coordinates / 3)))
group-count-exactly f a =
    let n = length a.coordinates in
    let whole = bad-coordinates-exactly n in
    let free = no-free-exactly f (n / 3) in (
      λ h.
          let p = neither (bad_coordinates n) (no_free f (n / 3)) h in
          let w = whole.0 p.0 in (free.0 p.1, w.1, w.2),
      λ h. rw (whole.1 (omega (arith, h.0), h.1, h.2)) (free.1 h.0),
    )

-- with none fixed it is that of the coordinates alone: one of 1 to 64 shades is free
pub groups-none-fixed : (a : State) → bad_group_count 0 a ≡ bad_coordinates (length a.coordinates)
groups-none-fixed a =
    let n = length a.coordinates in
    fail-together (bad_group_count 0 a) (bad_coordinates n) (λ h. (neither (bad_coordinates n) (no_free 0 (n / 3)) h).0)
    (λ h. (group-count-exactly 0 a).1 ((bad-coordinates-exactly n).0 h))

-- so with none fixed the outcome of the call is that of the palette of groups
pub palette-none-fixed : (rec : Record) (ks ws : List ℕ) (a : State) (d : List ℕ)
    → palette_from_groups_fixed 0 rec ks ws a d ≡ palette_from_groups rec ks ws a d
unfolding palette_from_groups_fixed palette_from_groups
palette-none-fixed rec ks ws a d = rw (groups-none-fixed a)

module _ (f : ℕ) (rec : Record) (ks ws : List ℕ) (a : State) (d : List ℕ) where
  -- making a palette of groups refuses by its rows: it is made, or no byte changes
  pub groups-refuses-fixed : RefusesBy (group_rows_fixed f rec ks ws a d) (palette_from_groups_fixed f rec ks ws a d)
      (λ o. result_err o.answer) (made_by_groups f rec ks ws a d) (kept_palette d)
  unfolding palette_from_groups_fixed
  groups-refuses-fixed = refuses_by _ _ _ _ refl (λ n. refl)

  -- a refusal leaves every byte
  pub groups-refused-kept-fixed : (n : Refusal) → result_err (palette_from_groups_fixed f rec ks ws a d).answer ≡ Some n
      → (palette_from_groups_fixed f rec ks ws a d).palette ≡ d
  groups-refused-kept-fixed n e = ap (λ (o : PaletteOutcome). o.palette) (groups-refuses-fixed.refused_is n e)

  -- on a good table, with k shades of the grid in 3k coordinates, fewer of them fixed, a shade's number for each entry
  -- and three bytes for each shade, nothing is refused
  pub groups-accepted-fixed : (k : ℕ) → f < k → bad_table rec ks ws ≡ false → Fit (colours_of rec.used ks ws) k a
      → length a.coordinates ≡ 3 * k → Joined (colours_of rec.used ks ws) k a → 3 * k ≤ length d
      → result_err (palette_from_groups_fixed f rec ks ws a d).answer ≡ None
  groups-accepted-fixed k free table fit whole joined room =
      let third : length a.coordinates / 3 ≡ k = omega arith in
      let count = (group-count-exactly f a).1 (omega arith, omega (arith, fit.shades.few), omega arith) in
      let centre = (bad-centre-exactly a.coordinates).1 fit.shades.low in
      let members_room : short_members rec a.members ≡ false = le-ltb _ _ fit.room in
      let palette_room : short_palette a.coordinates d ≡ false =
      le-ltb (length d) (3 * (length a.coordinates / 3)) (omega arith) in
      let rooms : short_rooms rec a d ≡ false = rw (members_room, palette_room) in
      let below = (bad-member-exactly rec.used (length a.coordinates / 3) a.members).1
      (λ i l. rw third (joined i l)) in
      groups-refuses-fixed.accepted_exactly.1 (table, (count, (centre, (rooms, (below, tt)))))

  -- ---- what an accepted call leaves

  module _ (ok : result_err (palette_from_groups_fixed f rec ks ws a d).answer ≡ None) where
    -- what is accepted is made
    made : (palette_from_groups_fixed f rec ks ws a d).palette ≡ group_palette f rec.used ks ws a d
    made = ap (λ (o : PaletteOutcome). o.palette) (groups-refuses-fixed.accepted_is ok)

    -- the coordinates are whole shades
    whole : length a.coordinates ≡ 3 * (length a.coordinates / 3)
    whole = ((group-count-exactly f a).0 (groups-refuses-fixed.accepted_exactly.0 ok).1.0).2

    -- fewer are fixed
    free-left : f < length a.coordinates / 3
    free-left = ((group-count-exactly f a).0 (groups-refuses-fixed.accepted_exactly.0 ok).1.0).0

    -- there are three bytes for each
    room : 3 * (length a.coordinates / 3) ≤ length d
    room =
        let rooms = (groups-refuses-fixed.accepted_exactly.0 ok).1.1.1.0 in
        ltb-false (length d) (3 * (length a.coordinates / 3))
        (neither (short_members rec a.members) (short_palette a.coordinates d) rooms).1

    -- the coordinates are on the grid
    low : OnGrid a.coordinates
    low = (bad-centre-exactly a.coordinates).0 (groups-refuses-fixed.accepted_exactly.0 ok).1.1.0

    -- the palette entries
    abbrev entry : ℕ → Point
    entry = group_entry f rec.used ks ws a

    -- byte i is a channel of its shade's entry
    byte-at : (i : ℕ) → i < length a.coordinates
        → get_or (palette_from_groups_fixed f rec ks ws a d).palette i 0 ≡ coordinate_of entry i
    byte-at i h =
        rw made
        (fill-at (3 * (length a.coordinates / 3)) i (coordinate_of entry) d (omega (arith, whole))
        (omega (arith, whole, room)))

    -- a channel of an entry is a level
    channel-low : (i : ℕ) → coordinate_of entry i ≤ most_level
    channel-low i =
        axis-within most_level (i % 3) (entry (i / 3)) (entry-within f rec.used ks ws a low (i / 3))

    -- no byte made is above 255
    pub byte-most-fixed : (i : ℕ) → i < length a.coordinates
        → get_or (palette_from_groups_fixed f rec ks ws a d).palette i 0 ≤ most_level
    byte-most-fixed i h = rw (byte-at i h) (channel-low i)

    -- the palette is bytes, if what was lent is
    pub groups-bytes-fixed : Bytes d → Bytes (palette_from_groups_fixed f rec ks ws a d).palette
    groups-bytes-fixed bytes i =
        let most : get_or (palette_from_groups_fixed f rec ks ws a d).palette i 0 ≤ most_level =
        rw made
        (fill-at-most (3 * (length a.coordinates / 3)) most_level (coordinate_of entry) d channel-low
        (λ j. omega (arith, bytes j)) i) in
        omega (arith, most)

    -- bytes past the last shade's stay
    pub groups-kept-fixed : (i : ℕ) → length a.coordinates ≤ i
        → get_or (palette_from_groups_fixed f rec ks ws a d).palette i 0 ≡ get_or d i 0
    groups-kept-fixed i h =
        rw made (fill-kept (3 * (length a.coordinates / 3)) i (coordinate_of entry) d (omega (arith, whole)))

    -- channel e of shade q has the byte 3q + e
    byte_of : (q e : ℕ) → q < length a.coordinates / 3 → e < 3
        → get_or (palette_from_groups_fixed f rec ks ws a d).palette (3 * q + e) 0 ≡ axis e (entry q)
    byte_of q e few channel = byte-at (3 * q + e) (omega (arith, whole)) ∙ coordinate-at entry q e channel

    -- of a fixed shade it is the level of the shade's coordinate, group or none
    pub byte-of-fixed : (q e : ℕ) → q < f → e < 3
        → get_or (palette_from_groups_fixed f rec ks ws a d).palette (3 * q + e) 0
        ≡ level_of (get_or a.coordinates (3 * q + e) 0)
    byte-of-fixed q e fixed channel =
        byte_of q e (omega (arith, free-left)) channel ∙ entry-of-fixed f rec.used ks ws a q e fixed channel

    -- ---- of a free shade

    module _ (q e : ℕ) (free : f ≤ q) (few : q < length a.coordinates / 3) (channel : e < 3) where
      -- with no group it is the level of the shade's coordinate
      pub byte-of-none-fixed : W (channel_group rec ks ws a q e) ≡ 0
          → get_or (palette_from_groups_fixed f rec ks ws a d).palette (3 * q + e) 0
          ≡ level_of (get_or a.coordinates (3 * q + e) 0)
      byte-of-none-fixed none = byte_of q e few channel ∙ entry-of-none f rec.used ks ws a q e free none channel

      module _ (some : 0 < W (channel_group rec ks ws a q e)) where
        -- with a group it is the rounded mean of the group's levels
        pub byte-of-group-fixed : get_or (palette_from_groups_fixed f rec ks ws a d).palette (3 * q + e) 0
            ≡ rounded_mean (W (channel_group rec ks ws a q e)) (S (channel_group rec ks ws a q e))
        byte-of-group-fixed = byte_of q e few channel ∙ entry-of-group f rec.used ks ws a q e free some

        -- the level nearest to the exact mean, a half going up
        pub byte-is-nearest-fixed : Nearest (W (channel_group rec ks ws a q e)) (S (channel_group rec ks ws a q e))
            (get_or (palette_from_groups_fixed f rec ks ws a d).palette (3 * q + e) 0)
        byte-is-nearest-fixed =
            rw byte-of-group-fixed
            (rounded-mean-is-nearest (W (channel_group rec ks ws a q e)) (S (channel_group rec ks ws a q e)) some)

        -- which is one level only
        pub byte-only-fixed : (x : ℕ) → Nearest (W (channel_group rec ks ws a q e)) (S (channel_group rec ks ws a q e))
            x
            → x ≡ get_or (palette_from_groups_fixed f rec ks ws a d).palette (3 * q + e) 0
        byte-only-fixed x near =
            nearest-only (W (channel_group rec ks ws a q e)) (S (channel_group rec ks ws a q e)) near
            byte-is-nearest-fixed

        -- no level gives the group a smaller sum of squared differences
        pub byte-is-best-fixed : (z : ℕ)
            → cost (channel_group rec ks ws a q e) (get_or (palette_from_groups_fixed f rec ks ws a d).palette
            (3 * q + e) 0)
            ≤ cost (channel_group rec ks ws a q e) z
        byte-is-best-fixed z = rw byte-of-group-fixed (rounded-mean-best (channel_group rec ks ws a q e) some z)
