-- What the tests of a palette of groups mean, what is refused, and what a palette made holds.
use Prim.Native.Nat.{ℕ, ◌+◌, ◌*◌, ◌/◌, ◌%◌, ◌≤◌, ◌<◌}
use mathlib.Core.Bool.{true, false}
use mathlib.Core.List.{List}
use mathlib.Core.Logic.{◌↔◌, ◌⊎◌, inl, inr}
use mathlib.Core.Path.{◌≡◌, refl, ap, ◌∙◌}
use native.Mathlib.Omega.{arith}
use lib.ListN.{length, get_or}
use borrow.Author.Tests.{ltb-true, ltb-false, lt-ltb, le-ltb}
use Rattle.number.specs.{W, S, cost, rounded_mean, Nearest}
use Rattle.number.proofs.Cases.{neither, either-exactly}
use Rattle.number.proofs.Fills.{fill-at, fill-kept, fill-at-most}
use Rattle.number.proofs.Promises.{rounded-mean-is-nearest, nearest-only, rounded-mean-best}
use Rattle.std.specs.Prelude.{None, Some}
use Rattle.std.specs.Result.{result_err}
use Rattle.refusal.specs.{Refusal, RefusesBy}
use Rattle.refusal.proofs.By.{refuses_by}
use Rattle.colour.specs.{Point, Bytes, most_level}
use Rattle.table_test.specs.{Record, bad_table}
use Rattle.shades.specs.{axis, coordinate_of, OnGrid}
use Rattle.shades.proofs.Checks.{bad-coordinates-exactly, bad-centre-exactly}
use Rattle.shades.proofs.Laying.{axis-within, coordinate-at}
use Rattle.method.specs.{State, colours_of, Fit, Joined}
use Rattle.lloyd_tests.specs.{short_members}
use Rattle.lloyd_tests.proofs.Checks.{bad-member-exactly}
use Rattle.palette.specs.{PaletteOutcome, kept_palette, short_palette, level_of}
use Rattle.palette_means.specs.{group_entry, group_palette}
use Rattle.palette_means.proofs.Means.{entry-of-group, entry-of-none, entry-within}
use Rattle.palette_groups.specs.Outcomes.{
  channel_group,
  short_rooms,
  group_rows,
  made_by_groups,
  palette_from_groups,
}

-- ---- refusals

-- the room is short exactly where the members are fewer than the used entries or the bytes fewer than three for each
-- shade
pub short-rooms-exactly : (rec : Record) (a : State) (d : List ℕ)
    → (short_rooms rec a d ≡ true)
    ↔ ((length a.members < rec.used) ⊎ (length d < 3 * (length a.coordinates / 3)))
short-rooms-exactly rec a d =
    let e = either-exactly (short_members rec a.members) (short_palette a.coordinates d) in (
      λ h. elim (e.0 h) [ inl m ↦ inl (ltb-true _ _ m) | inr p ↦ inr (ltb-true _ _ p) ],
      λ h. e.1 (elim h [ inl m ↦ inl (lt-ltb _ _ m) | inr p ↦ inr (lt-ltb _ _ p) ]),
    )

module _ (rec : Record) (ks ws : List ℕ) (a : State) (d : List ℕ) where
  -- making a palette of groups refuses by its rows: it is made, or no byte changes
  pub groups-refuses : RefusesBy (group_rows rec ks ws a d) (palette_from_groups rec ks ws a d)
      (λ o. result_err o.answer) (made_by_groups 0 rec ks ws a d) (kept_palette d)
  unfolding palette_from_groups
  groups-refuses = refuses_by _ _ _ _ refl (λ n. refl)

  -- a refusal leaves every byte
  pub groups-refused-kept : (n : Refusal) → result_err (palette_from_groups rec ks ws a d).answer ≡ Some n
      → (palette_from_groups rec ks ws a d).palette ≡ d
  groups-refused-kept n e = ap (λ (o : PaletteOutcome). o.palette) (groups-refuses.refused_is n e)

  -- on a good table, with k shades of the grid in 3k coordinates, a shade's number for each entry and three bytes for
  -- each shade, nothing is refused
  pub groups-accepted : (k : ℕ) → bad_table rec ks ws ≡ false → Fit (colours_of rec.used ks ws) k a
      → length a.coordinates ≡ 3 * k → Joined (colours_of rec.used ks ws) k a → 3 * k ≤ length d
      → result_err (palette_from_groups rec ks ws a d).answer ≡ None
  groups-accepted k table fit whole joined room =
      let third : length a.coordinates / 3 ≡ k = omega arith in
      let count = (bad-coordinates-exactly (length a.coordinates)).1
      (omega (arith, fit.some), omega (arith, fit.shades.few), omega arith) in
      let centre = (bad-centre-exactly a.coordinates).1 fit.shades.low in
      let members_room : short_members rec a.members ≡ false = le-ltb _ _ fit.room in
      let palette_room : short_palette a.coordinates d ≡ false =
      le-ltb (length d) (3 * (length a.coordinates / 3)) (omega arith) in
      let rooms : short_rooms rec a d ≡ false = rw (members_room, palette_room) in
      let below = (bad-member-exactly rec.used (length a.coordinates / 3) a.members).1
      (λ i l. rw third (joined i l)) in
      groups-refuses.accepted_exactly.1 (table, (count, (centre, (rooms, (below, tt)))))

  -- ---- what an accepted call leaves

  module _ (ok : result_err (palette_from_groups rec ks ws a d).answer ≡ None) where
    -- what is accepted is made
    made : (palette_from_groups rec ks ws a d).palette ≡ group_palette 0 rec.used ks ws a d
    made = ap (λ (o : PaletteOutcome). o.palette) (groups-refuses.accepted_is ok)

    -- the coordinates are whole shades
    whole : length a.coordinates ≡ 3 * (length a.coordinates / 3)
    whole = ((bad-coordinates-exactly (length a.coordinates)).0 (groups-refuses.accepted_exactly.0 ok).1.0).2

    -- there are three bytes for each
    room : 3 * (length a.coordinates / 3) ≤ length d
    room =
        let rooms = (groups-refuses.accepted_exactly.0 ok).1.1.1.0 in
        ltb-false (length d) (3 * (length a.coordinates / 3))
        (neither (short_members rec a.members) (short_palette a.coordinates d) rooms).1

    -- the coordinates are on the grid
    low : OnGrid a.coordinates
    low = (bad-centre-exactly a.coordinates).0 (groups-refuses.accepted_exactly.0 ok).1.1.0

    -- the palette entries
    abbrev entry : ℕ → Point
    entry = group_entry 0 rec.used ks ws a

    -- byte i is a channel of its shade's entry
    byte-at : (i : ℕ) → i < length a.coordinates
        → get_or (palette_from_groups rec ks ws a d).palette i 0 ≡ coordinate_of entry i
    byte-at i h =
        rw made
        (fill-at (3 * (length a.coordinates / 3)) i (coordinate_of entry) d (omega (arith, whole))
        (omega (arith, whole, room)))

    -- a channel of an entry is a level
    channel-low : (i : ℕ) → coordinate_of entry i ≤ most_level
    channel-low i =
        axis-within most_level (i % 3) (entry (i / 3)) (entry-within 0 rec.used ks ws a low (i / 3))

    -- no byte made is above 255
    pub byte-most : (i : ℕ) → i < length a.coordinates
        → get_or (palette_from_groups rec ks ws a d).palette i 0 ≤ most_level
    byte-most i h = rw (byte-at i h) (channel-low i)

    -- the palette is bytes, if what was lent is
    pub groups-bytes : Bytes d → Bytes (palette_from_groups rec ks ws a d).palette
    groups-bytes bytes i =
        let most : get_or (palette_from_groups rec ks ws a d).palette i 0 ≤ most_level =
        rw made
        (fill-at-most (3 * (length a.coordinates / 3)) most_level (coordinate_of entry) d channel-low
        (λ j. omega (arith, bytes j)) i) in
        omega (arith, most)

    -- bytes past the last shade's stay
    pub groups-kept : (i : ℕ) → length a.coordinates ≤ i
        → get_or (palette_from_groups rec ks ws a d).palette i 0 ≡ get_or d i 0
    groups-kept i h =
        rw made (fill-kept (3 * (length a.coordinates / 3)) i (coordinate_of entry) d (omega (arith, whole)))

    module _ (q e : ℕ) (few : q < length a.coordinates / 3) (channel : e < 3) where
      -- channel e of shade q has the byte 3q + e
      byte_of : get_or (palette_from_groups rec ks ws a d).palette (3 * q + e) 0 ≡ axis e (entry q)
      byte_of = byte-at (3 * q + e) (omega (arith, whole)) ∙ coordinate-at entry q e channel

      -- with no group it is the level of the shade's coordinate
      pub byte-of-none : W (channel_group rec ks ws a q e) ≡ 0
          → get_or (palette_from_groups rec ks ws a d).palette (3 * q + e) 0
          ≡ level_of (get_or a.coordinates (3 * q + e) 0)
      byte-of-none none = byte_of ∙ entry-of-none 0 rec.used ks ws a q e (omega arith) none channel

      module _ (some : 0 < W (channel_group rec ks ws a q e)) where
        -- with a group it is the rounded mean of the group's levels
        pub byte-of-group : get_or (palette_from_groups rec ks ws a d).palette (3 * q + e) 0
            ≡ rounded_mean (W (channel_group rec ks ws a q e)) (S (channel_group rec ks ws a q e))
        byte-of-group = byte_of ∙ entry-of-group 0 rec.used ks ws a q e (omega arith) some

        -- the level nearest to the exact mean, a half going up
        pub byte-is-nearest : Nearest (W (channel_group rec ks ws a q e)) (S (channel_group rec ks ws a q e))
            (get_or (palette_from_groups rec ks ws a d).palette (3 * q + e) 0)
        byte-is-nearest =
            rw byte-of-group
            (rounded-mean-is-nearest (W (channel_group rec ks ws a q e)) (S (channel_group rec ks ws a q e)) some)

        -- which is one level only
        pub byte-only : (x : ℕ) → Nearest (W (channel_group rec ks ws a q e)) (S (channel_group rec ks ws a q e)) x
            → x ≡ get_or (palette_from_groups rec ks ws a d).palette (3 * q + e) 0
        byte-only x near =
            nearest-only (W (channel_group rec ks ws a q e)) (S (channel_group rec ks ws a q e)) near byte-is-nearest

        -- no level gives the group a smaller sum of squared differences
        pub byte-is-best : (z : ℕ)
            → cost (channel_group rec ks ws a q e) (get_or (palette_from_groups rec ks ws a d).palette (3 * q + e) 0)
            ≤ cost (channel_group rec ks ws a q e) z
        byte-is-best z = rw byte-of-group (rounded-mean-best (channel_group rec ks ws a q e) some z)
