-- What is shown of the numbers of documents 01 and 02. The body of the first names the proof; the second is by
-- computation.
use Prim.Native.Nat.{ℕ, ◌<◌}
use mathlib.Core.Bool.{true}
use mathlib.Core.Path.{◌≡◌, refl}
use mathlib.Core.List.{List, [], ◌∷◌}
use lib.ListN.{length}
use Rattle.table.specs.{Record, add_rows}
use Rattle.method.specs.{State}
use Rattle.lloyd_refusal.specs.{run_rows}
use Rattle.lloyd_rounds.specs.{plain_rows, short_rows}
use Rattle.lloyd_fixed.specs.{fixed_rows}
use Rattle.palette.specs.{palette_rows}
use Rattle.palette_groups.specs.{group_rows, group_rows_fixed}
use Rattle.mapping.specs.{map_rows}
use Rattle.p6.specs.{picture_rows}
use Rattle.listing.specs.{listing_rows}
use Rattle.sheets.specs.{all_hold, example_at}
use Rattle.sheets.proofs.Table.{each-of-all}
use Rattle.scope.specs.Lines.{order_of}
use Rattle.scope.specs.Table.{scope_table}
use Rattle.scope.specs.Fixed.{scope_table_fixed}
use Rattle.scope.proofs.Table as table

-- Every line of the table comes out as the documents write it, by one test that is computed.
pub as_written : all_hold scope_table ≡ true
as_written = table.table-holds

-- So on every line the numbers that the definitions give are the numbers written down.
pub each-as-written : (i : ℕ) → i < length scope_table
    → (example_at scope_table i).computed ≡ (example_at scope_table i).written
each-as-written = each-of-all scope_table as_written

-- So do the lines of fixed shades.
pub as-written-fixed : all_hold scope_table_fixed ≡ true
as-written-fixed = table.table-holds-fixed

pub each-as-written-fixed : (i : ℕ) → i < length scope_table_fixed
    → (example_at scope_table_fixed i).computed ≡ (example_at scope_table_fixed i).written
each-as-written-fixed = each-of-all scope_table_fixed as-written-fixed

-- The orders of the refusals, on every input. Adding: 1, 2, 3.
pub add-order : (rec : Record) (ks ws s : List ℕ) → order_of (add_rows rec ks ws s) ≡ 1 ∷ 2 ∷ 3 ∷ []
add-order rec ks ws s = refl

-- Run: 2, 4, 5, 6, 7; Jancey's run (document 02) goes by the same rows.
pub run-order : (rec : Record) (ks ws : List ℕ) (k limit : ℕ) (ms ts : List ℕ)
    → order_of (run_rows rec ks ws k limit ms ts) ≡ 2 ∷ 4 ∷ 5 ∷ 6 ∷ 7 ∷ []
run-order rec ks ws k limit ms ts = refl

-- Run with fixed shades: 2, 10, 4, 5, 6, 7 (document 02).
pub fixed-order : (rec : Record) (ks ws fixed : List ℕ) (k limit : ℕ) (ms ts : List ℕ)
    → order_of (fixed_rows rec ks ws fixed k limit ms ts) ≡ 2 ∷ 10 ∷ 4 ∷ 5 ∷ 6 ∷ 7 ∷ []
fixed-order rec ks ws fixed k limit ms ts = refl

-- Single round: 2, 4, 8, 7, 9 (plain: no 9).
pub round-orders : (rec : Record) (ks ws : List ℕ) (a : State)
    → (order_of (short_rows rec ks ws a) ≡ 2 ∷ 4 ∷ 8 ∷ 7 ∷ 9 ∷ [])
    × (order_of (plain_rows rec ks ws a) ≡ 2 ∷ 4 ∷ 8 ∷ 7 ∷ [])
round-orders rec ks ws a = (refl, refl)

-- Palette from shades: 4, 8, 7.
pub palette-order : (s d : List ℕ) → order_of (palette_rows s d) ≡ 4 ∷ 8 ∷ 7 ∷ []
palette-order s d = refl

-- Palette of groups: 2, 4, 8, 7, 9 (document 02).
pub groups-order : (rec : Record) (ks ws : List ℕ) (a : State) (d : List ℕ)
    → order_of (group_rows rec ks ws a d) ≡ 2 ∷ 4 ∷ 8 ∷ 7 ∷ 9 ∷ []
groups-order rec ks ws a d = refl

-- The same with any number of shades fixed: 2, 4, 8, 7, 9 (document 02).
pub groups-order-fixed : (f : ℕ) (rec : Record) (ks ws : List ℕ) (a : State) (d : List ℕ)
    → order_of (group_rows_fixed f rec ks ws a d) ≡ 2 ∷ 4 ∷ 8 ∷ 7 ∷ 9 ∷ []
groups-order-fixed f rec ks ws a d = refl

-- Mapping: 1, 10, 18, 11, 7 (document 02, in place of 1, 10, 11, 7).
pub map-order : (s p d : List ℕ) (a : ℕ) → order_of (map_rows s p d a) ≡ 1 ∷ 10 ∷ 18 ∷ 11 ∷ 7 ∷ []
map-order s p d a = refl

-- Picture: 12, 13, 14, 15.
pub picture-order : (input : List ℕ) → order_of (picture_rows input) ≡ 12 ∷ 13 ∷ 14 ∷ 15 ∷ []
picture-order input = refl

-- The listing: 4, 13, the picture's, the run's, and then the mapping's (document 02).
pub listing-order : (s : List ℕ)
    → order_of (listing_rows s) ≡ 4 ∷ 13 ∷ 12 ∷ 13 ∷ 14 ∷ 15 ∷ 2 ∷ 4 ∷ 5 ∷ 6 ∷ 7 ∷ 1 ∷ 10 ∷ 18 ∷ 11 ∷ 7 ∷ []
listing-order s = refl
