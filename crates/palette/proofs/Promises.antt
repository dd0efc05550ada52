-- What is shown of palettes, each theorem in full; its body names the proof.
-- `palette_from_shades s d` is the outcome of a call (specs/Outcomes.antt): the contract of `palette_from_shades` says
-- that its answer and the lent bytes are those of this outcome, on every input.
use Prim.Native.Nat.{ℕ, ◌+◌, ◌*◌, ◌/◌, ◌≤◌, ◌<◌}
use mathlib.Core.Bool.{Bool, true, false}
use mathlib.Core.List.{List}
use mathlib.Core.Logic.{◌↔◌}
use mathlib.Core.Path.{◌≡◌, sym, ◌∙◌}
use lib.ListN.{length, get_or}
use Rattle.std.specs.Prelude.{Result, None, Some}
use Rattle.std.specs.Result.{result_err}
use Rattle.refusal.specs.{Refusal, Given, NoneHolds}
use Rattle.colour.specs.{most_level, most_coordinate, sixteenth}
use Rattle.shades.specs.{most_shades}
use Rattle.palette.specs.Palettes.{level_of}
use Rattle.palette.specs.Outcomes.{bad_palette, short_palette, palette_rows, palette_from_shades, PaletteMeets}
use Rattle.palette.proofs.Meaning as meaning

-- ---- the contracts leave one answer

-- Whatever meets the contract of `palette_from_shades` on an input has one answer and one content of the lent bytes.
pub palette-only : (s d : List ℕ) {r r' : Result (Unit {0}) Refusal} {x x' : List ℕ}
    → PaletteMeets (palette_from_shades s d) r x
    → PaletteMeets (palette_from_shades s d) r' x' → (r ≡ r') × (x ≡ x')
palette-only s d a b = (a.answer ∙ sym b.answer, a.palette_is ∙ sym b.palette_is)

-- Whatever meets the contract of `bad_palette` on an input is one answer.
pub bad-palette-only : (p : List ℕ) {r r' : Bool} → r ≡ bad_palette p → r' ≡ bad_palette p → r ≡ r'
bad-palette-only p a b = a ∙ sym b

-- ---- refusals

-- A refusal is given exactly when its row is the first of 4, 8, 7 whose test holds.
pub palette-refused-exactly : (s d : List ℕ) (n : Refusal)
    → (result_err (palette_from_shades s d).answer ≡ Some n) ↔ Given (palette_rows s d) n
palette-refused-exactly s d = (meaning.palette-refuses s d).refused_exactly

-- A palette is made exactly when none of the three tests holds.
pub palette-accepted-exactly : (s d : List ℕ)
    → (result_err (palette_from_shades s d).answer ≡ None) ↔ NoneHolds (palette_rows s d)
palette-accepted-exactly s d = (meaning.palette-refuses s d).accepted_exactly

-- The test of SHORT ROOM holds exactly when the palette bytes are fewer than 3 for each shade.
pub short-palette-exactly : (s d : List ℕ) → (short_palette s d ≡ true) ↔ (length d < 3 * (length s / 3))
short-palette-exactly = meaning.short-palette-exactly

-- The test of BAD PALETTE fails exactly for 1 to 64 entries of three bytes.
pub bad-palette-exactly : (p : List ℕ)
    → (bad_palette p ≡ false) ↔ ((1 ≤ length p / 3) × (length p / 3 ≤ most_shades) × (length p ≡ 3 * (length p / 3)))
bad-palette-exactly = meaning.bad-palette-exactly

-- A refusal leaves every byte as it came.
pub palette-refused-kept : (s d : List ℕ) (n : Refusal) → result_err (palette_from_shades s d).answer ≡ Some n
    → (palette_from_shades s d).palette ≡ d
palette-refused-kept = meaning.palette-refused-kept

-- ---- the palette

-- In an accepted call each byte is the level of its coordinate.
pub palette-byte : (s d : List ℕ) → result_err (palette_from_shades s d).answer ≡ None → (i : ℕ) → i < length s
    → get_or (palette_from_shades s d).palette i 0 ≡ level_of (get_or s i 0)
palette-byte = meaning.palette-byte

-- Bytes past the last shade's stay.
pub palette-kept : (s d : List ℕ) → result_err (palette_from_shades s d).answer ≡ None → (i : ℕ) → length s ≤ i
    → get_or (palette_from_shades s d).palette i 0 ≡ get_or d i 0
palette-kept = meaning.palette-kept

-- A level is the nearest to its coordinate: within half a level, and at a half the upper one.
pub level-near : (c : ℕ) → (sixteenth (level_of c) ≤ c + 8) × (c < sixteenth (level_of c) + 8)
level-near = meaning.level-near

-- The level of a shade's coordinate is that of a byte.
pub level-most : (c : ℕ) → c ≤ most_coordinate → level_of c ≤ most_level
level-most = meaning.level-most

-- A shade that stands on a colour has that colour's levels.
pub level-of-colour : (level : ℕ) → level_of (sixteenth level) ≡ level
level-of-colour = meaning.level-of-colour
