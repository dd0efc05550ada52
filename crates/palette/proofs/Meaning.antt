-- What the tests of a palette mean, what is refused, and what a palette made holds.
use Prim.Native.Nat.{ℕ, ◌+◌, ◌*◌, ◌/◌, ◌≤◌, ◌<◌}
use mathlib.Core.Bool.{true, false}
use mathlib.Core.List.{List}
use mathlib.Core.Logic.{◌↔◌}
use mathlib.Core.Path.{◌≡◌, refl, ap}
use native.Mathlib.Omega.{arith}
use lib.ListN.{length, get_or}
use borrow.Author.Tests.{ltb-true, ltb-false, lt-ltb}
use Rattle.number.proofs.Fills.{fill-at, fill-kept, fill-at-most}
use Rattle.std.specs.Prelude.{None, Some}
use Rattle.std.specs.Result.{result_err}
use Rattle.refusal.specs.{Refusal, RefusesBy}
use Rattle.refusal.proofs.By.{refuses_by, refuses-by-all}
use Rattle.colour.specs.{Bytes, most_level, most_coordinate, sixteenth}
use Rattle.shades.specs.{most_shades, OnGrid}
use Rattle.shades.proofs.Checks.{bad-coordinates-exactly}
use Rattle.palette.specs.Palettes.{level_of, palette_of}
use Rattle.palette.specs.Outcomes.{
  bad_palette,
  short_palette,
  palette_rows,
  PaletteOutcome,
  made_palette,
  kept_palette,
  palette_from_shades,
}

-- ---- a level

-- a coordinate is within half a level of its level, and at a half the level is the upper one
pub level-near : (c : ℕ) → (sixteenth (level_of c) ≤ c + 8) × (c < sixteenth (level_of c) + 8)
level-near c = (omega arith, omega arith)

-- a coordinate of a shade has a level of a byte
pub level-most : (c : ℕ) → c ≤ most_coordinate → level_of c ≤ most_level
level-most c h = omega arith

-- a colour's level is its own
pub level-of-colour : (level : ℕ) → level_of (sixteenth level) ≡ level
level-of-colour level = omega arith

-- ---- refusals

-- a palette has 1 to 64 entries of three bytes
pub bad-palette-exactly : (p : List ℕ)
    → (bad_palette p ≡ false) ↔ ((1 ≤ length p / 3) × (length p / 3 ≤ most_shades) × (length p ≡ 3 * (length p / 3)))
bad-palette-exactly p = bad-coordinates-exactly (length p)

-- the room is short exactly where the bytes are fewer than three for each shade
pub short-palette-exactly : (s d : List ℕ) → (short_palette s d ≡ true) ↔ (length d < 3 * (length s / 3))
short-palette-exactly s d = (ltb-true _ _, lt-ltb _ _)

module _ (s d : List ℕ) where
  -- making a palette refuses by its rows: it is made, or no byte changes
  pub palette-refuses : RefusesBy (palette_rows s d) (palette_from_shades s d) (λ o. result_err o.answer)
      (made_palette s d) (kept_palette d)
  unfolding palette_from_shades
  palette-refuses = refuses_by _ _ _ _ refl (λ n. refl)

  -- a refusal leaves every byte
  pub palette-refused-kept : (n : Refusal) → result_err (palette_from_shades s d).answer ≡ Some n
      → (palette_from_shades s d).palette ≡ d
  palette-refused-kept n e = ap (λ (o : PaletteOutcome). o.palette) (palette-refuses.refused_is n e)

  -- of shades on the grid the palette is bytes, if what was lent is
  pub palette-bytes : OnGrid s → Bytes d → Bytes (palette_from_shades s d).palette
  palette-bytes low bytes i =
      omega (
        arith,
        refuses-by-all palette-refuses (λ o. get_or o.palette i 0 ≤ most_level)
            (fill-at-most (length s) most_level (λ j. level_of (get_or s j 0)) d
            (λ j. level-most (get_or s j 0) (low j))
            (λ j. omega (arith, bytes j)) i)
            (λ n. omega (arith, bytes i)),
      )

  module _ (ok : result_err (palette_from_shades s d).answer ≡ None) where
    -- what is accepted is made
    made : (palette_from_shades s d).palette ≡ palette_of s d
    made = ap (λ (o : PaletteOutcome). o.palette) (palette-refuses.accepted_is ok)

    -- there is a byte for each coordinate
    room : length s ≤ length d
    room =
        let none = palette-refuses.accepted_exactly.0 ok in
        let whole = (bad-coordinates-exactly (length s)).0 none.0 in
        omega (arith, whole.2, ltb-false (length d) (3 * (length s / 3)) none.1.1.0)

    -- each byte of the palette is the level of its coordinate
    pub palette-byte : (i : ℕ) → i < length s → get_or (palette_from_shades s d).palette i 0 ≡ level_of (get_or s i 0)
    palette-byte i h = rw made (fill-at (length s) i (λ j. level_of (get_or s j 0)) d h (omega (arith, room)))

    -- bytes past the last shade's stay
    pub palette-kept : (i : ℕ) → length s ≤ i → get_or (palette_from_shades s d).palette i 0 ≡ get_or d i 0
    palette-kept i h = rw made (fill-kept (length s) i (λ j. level_of (get_or s j 0)) d h)
