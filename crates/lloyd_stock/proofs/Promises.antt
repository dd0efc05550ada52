-- What is shown of shades fixed from stock, each theorem in full; its body names the proof.
-- A fixed list has three bytes for each shade: `fixed_key fixed q` (specs/Keys.antt) is the key of the bytes 3q, 3q + 1
-- and 3q + 2. The contract of `colours_left` says that its answer is `colours_left` (specs/Stock.antt).
use Prim.Native.Nat.{ℕ, ◌+◌, ◌-◌, ◌*◌, ◌≤◌, ◌<◌}
use mathlib.Core.Bool.{false}
use mathlib.Core.List.{List}
use mathlib.Core.Logic.{◌↔◌}
use mathlib.Core.Path.{◌≡◌}
use lib.ListN.{get_or, length, take}
use Rattle.number.specs.{fill, how_many}
use Rattle.colour.specs.{Bytes, sixteenth, colour_of, key_of}
use Rattle.table_test.specs.{Record, GoodTable}
use Rattle.shades.specs.{most_shades, shade_at, colour_at, OnGrid}
use Rattle.method.specs.{remote, listed}
use Rattle.lloyd_stock.specs.Stock.{fixed_in, stock, colours_left, bad_fixed, bad_free, few_left}
use Rattle.lloyd_stock.specs.Keys.{UsedKeys, fixed_key, takes_one}
use Rattle.lloyd_stock.proofs.Checks as checks
use Rattle.lloyd_stock.proofs.Stocks as stocks
use Rattle.lloyd_stock.proofs.Lefts as lefts

-- ---- when a run with fixed shades is refused for them

-- The test of BAD PALETTE fails exactly for three bytes for each of 1 to 63 shades.
pub bad-fixed-exactly : (fixed : List ℕ)
    → (bad_fixed fixed ≡ false) ↔ ((1 ≤ fixed_in fixed) × (fixed_in fixed ≤ 63) × (length fixed ≡ 3 * fixed_in fixed))
bad-fixed-exactly = checks.bad-fixed-exactly

-- The test of BAD COUNT fails exactly for more shades than are fixed, and at most 64.
pub bad-free-exactly : (fixed : List ℕ) (k : ℕ)
    → (bad_free fixed k ≡ false) ↔ ((fixed_in fixed < k) × (k ≤ most_shades))
bad-free-exactly = checks.bad-free-exactly

-- The test of FEW COLOURS fails exactly where at least as many colours are left as shades are free.
pub few-left-exactly : (rec : Record) (ks fixed : List ℕ) (k : ℕ)
    → (few_left rec ks fixed k ≡ false) ↔ (k - fixed_in fixed ≤ colours_left rec.used ks fixed)
few-left-exactly = checks.few-left-exactly

-- That is where fixed shades and colours left are together at least as many as the shades.
pub enough-left-exactly : (rec : Record) (ks fixed : List ℕ) (k : ℕ)
    → (few_left rec ks fixed k ≡ false) ↔ (k ≤ fixed_in fixed + colours_left rec.used ks fixed)
enough-left-exactly = checks.enough-left-exactly

-- ---- where fixed shades stand

-- There is a coordinate for each byte.
pub stock-length : (fixed : List ℕ) → length (stock fixed) ≡ length fixed
stock-length = stocks.stock-length

-- As many shades are given to a run as are fixed.
pub stock-given : (fixed : List ℕ) → (listed (stock fixed)).given ≡ fixed_in fixed
stock-given = stocks.stock-given

-- Every fixed shade stands on the grid.
pub stock-low : (fixed : List ℕ) → Bytes fixed → OnGrid (stock fixed)
stock-low = stocks.stock-low

-- Each stands where the colour of its three bytes stands.
pub stock-at : (fixed : List ℕ) → Bytes fixed → (q : ℕ)
    → shade_at (stock fixed) q
    ≡ colour_of (key_of (get_or fixed (3 * q) 0) (get_or fixed (3 * q + 1) 0) (get_or fixed (3 * q + 2) 0))
stock-at = stocks.stock-at

-- What `lay_stock` leaves has the fixed shades in front.
pub stock-laid : (fixed b : List ℕ) → length fixed ≤ length b
    → take (length fixed) (fill (length fixed) (λ i. sixteenth (get_or fixed i 0)) b) ≡ stock fixed
stock-laid = stocks.stock-laid

-- ---- the colours that they leave

-- A good table has the used keys that `colours_left` requires.
pub used-keys-of-table : {rec : Record} {ks ws : List ℕ} → GoodTable rec ks ws → UsedKeys rec.used ks
used-keys-of-table = lefts.used-keys-of-table

-- A used colour counts as left exactly where its key differs from the key of every fixed shade.
pub colours-left-exactly : {rec : Record} {ks ws : List ℕ} → GoodTable rec ks ws → (fixed : List ℕ) → Bytes fixed
    → bad_fixed fixed ≡ false → (i : ℕ) → i < rec.used
    → (0 < remote (stock fixed) (fixed_in fixed) (colour_at ks i))
    ↔ ((q : ℕ) → q < fixed_in fixed → ¬ (get_or ks i 0 ≡ fixed_key fixed q))
colours-left-exactly = lefts.colours-left-exactly

-- All are left but as many at most as are fixed.
pub left-at-least : {rec : Record} {ks ws : List ℕ} → GoodTable rec ks ws → (fixed : List ℕ) → Bytes fixed
    → bad_fixed fixed ≡ false → rec.used ≤ colours_left rec.used ks fixed + fixed_in fixed
left-at-least g fixed bytes good = lefts.left-at-least fixed bytes (lefts.used-keys-of-table g) good

-- And no more than are used.
pub left-at-most : (used : ℕ) (ks fixed : List ℕ) → colours_left used ks fixed ≤ used
left-at-most = lefts.left-at-most

-- The colours left, and the fixed shades that are a used colour and have no equal before them, are as many as the used
-- colours: equal fixed shades take one colour together, and a fixed shade that no used colour is like takes none.
pub left-and-taken : {rec : Record} {ks ws : List ℕ} → GoodTable rec ks ws → (fixed : List ℕ) → Bytes fixed
    → bad_fixed fixed ≡ false
    → colours_left rec.used ks fixed + how_many (fixed_in fixed) (takes_one rec.used ks fixed) ≡ rec.used
left-and-taken g fixed bytes good = lefts.left-and-taken fixed bytes (lefts.used-keys-of-table g) good
