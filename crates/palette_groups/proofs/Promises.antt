-- What is shown of palettes of groups, each theorem in full; its body names the proof.
-- `palette_from_groups rec ks ws a d` is the outcome of a call (specs/Outcomes.antt), where a holds the lent
-- coordinates and members and d the lent bytes: the contract of `palette_from_groups` says that its answer and the
-- bytes at exit are those of this outcome, on every input. W and S of `channel_group rec ks ws a q e` are the pixel
-- count of the group of shade q and the sum of its levels on channel e, so that S / W is the exact mean.
-- `palette_from_groups_fixed f` is the same for the call that is told that the first f shades are fixed.
use Prim.Native.Nat.{ℕ, ◌+◌, ◌*◌, ◌/◌, ◌≤◌, ◌<◌}
use mathlib.Core.Bool.{true, false}
use mathlib.Core.List.{List}
use mathlib.Core.Logic.{◌↔◌, ◌⊎◌}
use mathlib.Core.Path.{◌≡◌, sym, ◌∙◌}
use lib.ListN.{length, get_or}
use Rattle.number.specs.{W, S, cost, rounded_mean, Nearest}
use Rattle.std.specs.Prelude.{Result, None, Some}
use Rattle.std.specs.Result.{result_err}
use Rattle.refusal.specs.{Refusal, Given, NoneHolds}
use Rattle.colour.specs.{most_level}
use Rattle.table_test.specs.{Record, bad_table}
use Rattle.shades.specs.{most_shades, bad_coordinates}
use Rattle.method.specs.{State, colours_of, Fit, Joined}
use Rattle.palette.specs.{level_of, PaletteMeets}
use Rattle.palette_groups.specs.Outcomes.{
  channel_group,
  short_rooms,
  group_rows,
  palette_from_groups,
}
use Rattle.palette_groups.specs.Fixed.{bad_group_count, group_rows_fixed, palette_from_groups_fixed}
use Rattle.palette_groups.proofs.Meaning as meaning
use Rattle.palette_groups.proofs.MeaningFixed as fixed

-- ---- the contract leaves one answer

-- Whatever meets the contract of `palette_from_groups` on an input has one answer and one content of the lent bytes.
pub groups-only : (rec : Record) (ks ws : List ℕ) (a : State) (d : List ℕ)
    {r r' : Result (Unit {0}) Refusal} {x x' : List ℕ}
    → PaletteMeets (palette_from_groups rec ks ws a d) r x → PaletteMeets (palette_from_groups rec ks ws a d) r' x'
    → (r ≡ r') × (x ≡ x')
groups-only rec ks ws a d u v = (u.answer ∙ sym v.answer, u.palette_is ∙ sym v.palette_is)

-- ---- refusals

-- A refusal is given exactly when its row is the first of 2, 4, 8, 7, 9 whose test holds.
pub groups-refused-exactly : (rec : Record) (ks ws : List ℕ) (a : State) (d : List ℕ) (n : Refusal)
    → (result_err (palette_from_groups rec ks ws a d).answer ≡ Some n) ↔ Given (group_rows rec ks ws a d) n
groups-refused-exactly rec ks ws a d = (meaning.groups-refuses rec ks ws a d).refused_exactly

-- A palette is made exactly when none of the five tests holds.
pub groups-accepted-exactly : (rec : Record) (ks ws : List ℕ) (a : State) (d : List ℕ)
    → (result_err (palette_from_groups rec ks ws a d).answer ≡ None) ↔ NoneHolds (group_rows rec ks ws a d)
groups-accepted-exactly rec ks ws a d = (meaning.groups-refuses rec ks ws a d).accepted_exactly

-- The test of SHORT ROOM holds exactly when the members are fewer than the used entries or the palette bytes fewer than
-- 3 for each shade.
pub short-rooms-exactly : (rec : Record) (a : State) (d : List ℕ)
    → (short_rooms rec a d ≡ true)
    ↔ ((length a.members < rec.used) ⊎ (length d < 3 * (length a.coordinates / 3)))
short-rooms-exactly = meaning.short-rooms-exactly

-- A refusal leaves every byte as it came.
pub groups-refused-kept : (rec : Record) (ks ws : List ℕ) (a : State) (d : List ℕ) (n : Refusal)
    → result_err (palette_from_groups rec ks ws a d).answer ≡ Some n → (palette_from_groups rec ks ws a d).palette ≡ d
groups-refused-kept = meaning.groups-refused-kept

-- On a good table, with k shades of the grid in 3k coordinates, a shade's number for each used entry and three bytes
-- for each shade, nothing is refused.
pub groups-accepted : (rec : Record) (ks ws : List ℕ) (a : State) (d : List ℕ) (k : ℕ) → bad_table rec ks ws ≡ false
    → Fit (colours_of rec.used ks ws) k a → length a.coordinates ≡ 3 * k
    → Joined (colours_of rec.used ks ws) k a → 3 * k ≤ length d
    → result_err (palette_from_groups rec ks ws a d).answer ≡ None
groups-accepted = meaning.groups-accepted

-- ---- the palette

module _ (rec : Record) (ks ws : List ℕ) (a : State) (d : List ℕ)
    (ok : result_err (palette_from_groups rec ks ws a d).answer ≡ None) where
  -- In an accepted call no byte made is above 255.
  pub byte-most : (i : ℕ) → i < length a.coordinates
      → get_or (palette_from_groups rec ks ws a d).palette i 0 ≤ most_level
  byte-most = meaning.byte-most rec ks ws a d ok

  -- Bytes past the last shade's stay.
  pub groups-kept : (i : ℕ) → length a.coordinates ≤ i
      → get_or (palette_from_groups rec ks ws a d).palette i 0 ≡ get_or d i 0
  groups-kept = meaning.groups-kept rec ks ws a d ok

  module _ (q e : ℕ) (few : q < length a.coordinates / 3) (channel : e < 3) where
    -- Of a shade with no group, the byte of each channel is the level of its coordinate, as by a palette from shades.
    pub byte-of-none : W (channel_group rec ks ws a q e) ≡ 0
        → get_or (palette_from_groups rec ks ws a d).palette (3 * q + e) 0 ≡ level_of
        (get_or a.coordinates (3 * q + e) 0)
    byte-of-none = meaning.byte-of-none rec ks ws a d ok q e few channel

    module _ (some : 0 < W (channel_group rec ks ws a q e)) where
      -- Of a shade with a group it is the whole part of (2S + W) / (2W).
      pub byte-of-group : get_or (palette_from_groups rec ks ws a d).palette (3 * q + e) 0
          ≡ rounded_mean (W (channel_group rec ks ws a q e)) (S (channel_group rec ks ws a q e))
      byte-of-group = meaning.byte-of-group rec ks ws a d ok q e few channel some

      -- That is the level nearest to the exact mean S / W: none is nearer, and each above it is farther, so that a half
      -- goes up.
      pub byte-is-nearest : Nearest (W (channel_group rec ks ws a q e)) (S (channel_group rec ks ws a q e))
          (get_or (palette_from_groups rec ks ws a d).palette (3 * q + e) 0)
      byte-is-nearest = meaning.byte-is-nearest rec ks ws a d ok q e few channel some

      -- There is no other such level.
      pub byte-only : (x : ℕ) → Nearest (W (channel_group rec ks ws a q e)) (S (channel_group rec ks ws a q e)) x
          → x ≡ get_or (palette_from_groups rec ks ws a d).palette (3 * q + e) 0
      byte-only = meaning.byte-only rec ks ws a d ok q e few channel some

      -- No other level gives the group a smaller sum of squared level differences on this channel.
      pub byte-is-best : (z : ℕ)
          → cost (channel_group rec ks ws a q e) (get_or (palette_from_groups rec ks ws a d).palette (3 * q + e) 0)
          ≤ cost (channel_group rec ks ws a q e) z
      byte-is-best = meaning.byte-is-best rec ks ws a d ok q e few channel some

-- ---- the first f shades fixed

-- Whatever meets the contract of `palette_from_groups_fixed` on an input has one answer and one content of the lent
-- bytes.
pub groups-only-fixed : (f : ℕ) (rec : Record) (ks ws : List ℕ) (a : State) (d : List ℕ)
    {r r' : Result (Unit {0}) Refusal} {x x' : List ℕ}
    → PaletteMeets (palette_from_groups_fixed f rec ks ws a d) r x
    → PaletteMeets (palette_from_groups_fixed f rec ks ws a d) r' x'
    → (r ≡ r') × (x ≡ x')
groups-only-fixed f rec ks ws a d u v = (u.answer ∙ sym v.answer, u.palette_is ∙ sym v.palette_is)

-- A refusal is given exactly when its row is the first of 2, 4, 8, 7, 9 whose test holds.
pub groups-refused-exactly-fixed : (f : ℕ) (rec : Record) (ks ws : List ℕ) (a : State) (d : List ℕ) (n : Refusal)
    → (result_err (palette_from_groups_fixed f rec ks ws a d).answer ≡ Some n)
    ↔ Given (group_rows_fixed f rec ks ws a d) n
groups-refused-exactly-fixed f rec ks ws a d = (fixed.groups-refuses-fixed f rec ks ws a d).refused_exactly

-- A palette is made exactly when none of the five tests holds.
pub groups-accepted-exactly-fixed : (f : ℕ) (rec : Record) (ks ws : List ℕ) (a : State) (d : List ℕ)
    → (result_err (palette_from_groups_fixed f rec ks ws a d).answer ≡ None)
    ↔ NoneHolds (group_rows_fixed f rec ks ws a d)
groups-accepted-exactly-fixed f rec ks ws a d = (fixed.groups-refuses-fixed f rec ks ws a d).accepted_exactly

-- The test of BAD COUNT fails exactly where the coordinates are three for each of at most 64 shades and fewer are fixed
-- than there are shades.
pub group-count-exactly : (f : ℕ) (a : State)
    → (bad_group_count f a ≡ false)
    ↔ ((f < length a.coordinates / 3) × (length a.coordinates / 3 ≤ most_shades)
    × (length a.coordinates ≡ 3 * (length a.coordinates / 3)))
group-count-exactly = fixed.group-count-exactly

-- With none fixed it is the test of the coordinates alone, so that the call refuses as a single round does.
pub groups-none-fixed : (a : State) → bad_group_count 0 a ≡ bad_coordinates (length a.coordinates)
groups-none-fixed = fixed.groups-none-fixed

-- A refusal leaves every byte as it came.
pub groups-refused-kept-fixed : (f : ℕ) (rec : Record) (ks ws : List ℕ) (a : State) (d : List ℕ) (n : Refusal)
    → result_err (palette_from_groups_fixed f rec ks ws a d).answer ≡ Some n
    → (palette_from_groups_fixed f rec ks ws a d).palette ≡ d
groups-refused-kept-fixed = fixed.groups-refused-kept-fixed

-- On a good table, with k shades of the grid in 3k coordinates, fewer of them fixed, a shade's number for each used
-- entry and three bytes for each shade, nothing is refused.
pub groups-accepted-fixed : (f : ℕ) (rec : Record) (ks ws : List ℕ) (a : State) (d : List ℕ) (k : ℕ) → f < k
    → bad_table rec ks ws ≡ false → Fit (colours_of rec.used ks ws) k a → length a.coordinates ≡ 3 * k
    → Joined (colours_of rec.used ks ws) k a → 3 * k ≤ length d
    → result_err (palette_from_groups_fixed f rec ks ws a d).answer ≡ None
groups-accepted-fixed = fixed.groups-accepted-fixed

module _ (f : ℕ) (rec : Record) (ks ws : List ℕ) (a : State) (d : List ℕ)
    (ok : result_err (palette_from_groups_fixed f rec ks ws a d).answer ≡ None) where
  -- In an accepted call no byte made is above 255.
  pub byte-most-fixed : (i : ℕ) → i < length a.coordinates
      → get_or (palette_from_groups_fixed f rec ks ws a d).palette i 0 ≤ most_level
  byte-most-fixed = fixed.byte-most-fixed f rec ks ws a d ok

  -- Bytes past the last shade's stay.
  pub groups-kept-fixed : (i : ℕ) → length a.coordinates ≤ i
      → get_or (palette_from_groups_fixed f rec ks ws a d).palette i 0 ≡ get_or d i 0
  groups-kept-fixed = fixed.groups-kept-fixed f rec ks ws a d ok

  -- Of a fixed shade, group or none, the byte of each channel is the level of its coordinate, as by a palette from
  -- shades.
  pub byte-of-fixed : (q e : ℕ) → q < f → e < 3
      → get_or (palette_from_groups_fixed f rec ks ws a d).palette (3 * q + e) 0
      ≡ level_of (get_or a.coordinates (3 * q + e) 0)
  byte-of-fixed = fixed.byte-of-fixed f rec ks ws a d ok

  -- Of a shade that is not fixed:
  module _ (q e : ℕ) (free : f ≤ q) (few : q < length a.coordinates / 3) (channel : e < 3) where
    -- With no group, the byte of each channel is the level of its coordinate, as by a palette from shades.
    pub byte-of-none-fixed : W (channel_group rec ks ws a q e) ≡ 0
        → get_or (palette_from_groups_fixed f rec ks ws a d).palette (3 * q + e) 0
        ≡ level_of (get_or a.coordinates (3 * q + e) 0)
    byte-of-none-fixed = fixed.byte-of-none-fixed f rec ks ws a d ok q e free few channel

    module _ (some : 0 < W (channel_group rec ks ws a q e)) where
      -- With a group it is the whole part of (2S + W) / (2W).
      pub byte-of-group-fixed : get_or (palette_from_groups_fixed f rec ks ws a d).palette (3 * q + e) 0
          ≡ rounded_mean (W (channel_group rec ks ws a q e)) (S (channel_group rec ks ws a q e))
      byte-of-group-fixed = fixed.byte-of-group-fixed f rec ks ws a d ok q e free few channel some

      -- That is the level nearest to the exact mean S / W: none is nearer, and each above it is farther, so that a half
      -- goes up.
      pub byte-is-nearest-fixed : Nearest (W (channel_group rec ks ws a q e)) (S (channel_group rec ks ws a q e))
          (get_or (palette_from_groups_fixed f rec ks ws a d).palette (3 * q + e) 0)
      byte-is-nearest-fixed = fixed.byte-is-nearest-fixed f rec ks ws a d ok q e free few channel some

      -- There is no other such level.
      pub byte-only-fixed : (x : ℕ) → Nearest (W (channel_group rec ks ws a q e)) (S (channel_group rec ks ws a q e)) x
          → x ≡ get_or (palette_from_groups_fixed f rec ks ws a d).palette (3 * q + e) 0
      byte-only-fixed = fixed.byte-only-fixed f rec ks ws a d ok q e free few channel some

      -- No other level gives the group a smaller sum of squared level differences on this channel.
      pub byte-is-best-fixed : (z : ℕ)
          → cost (channel_group rec ks ws a q e) (get_or (palette_from_groups_fixed f rec ks ws a d).palette (3 * q + e)
          0)
          ≤ cost (channel_group rec ks ws a q e) z
      byte-is-best-fixed = fixed.byte-is-best-fixed f rec ks ws a d ok q e free few channel some
