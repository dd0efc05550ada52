-- The table of examples: that the test passes, and what a test that passes says of any table.
use Prim.Native.Nat.{ℕ, zero, suc, ◌<◌}
use native.Mathlib.Nat.{le_of_suc-le-suc, not-suc-le-zero}
use mathlib.Core.Bool.{true}
use mathlib.Core.Path.{◌≡◌, refl, sym, ap₂}
use mathlib.Core.List.{List, [], ◌∷◌}
use lib.Dec.{eqb}
use lib.Ieee.{div, of_int}
use lib.ListN.{length}
use borrow.Author.Tests.{eqb-true}
use Rattle.number.specs.{first_best, how_many, sum, fill, fill_from, first_that, sq}
use Rattle.number.proofs.Cases.{never, both}
use Rattle.colour.specs.{distance}
use Rattle.table.specs.{add_strip}
use Rattle.method.specs.{starts_from, over, after}
use Rattle.lloyd.specs.{plain_round, short_round, run_of}
use Rattle.palette.specs.{palette_from_shades}
use Rattle.palette_groups.specs.{palette_from_groups}
use Rattle.figures.specs.{figure}
use Rattle.mapping.specs.{map_strip}
use Rattle.sheets.specs.Examples.{Example, same_numbers, same_rows, all_hold, example_at}
use Rattle.sheets.specs.Table.{sheets}

-- Rows that pass the test are one row.
numbers-same : (xs ys : List ℕ) → same_numbers xs ys ≡ true → xs ≡ ys
numbers-same [] [] h = refl
numbers-same [] (y ∷ ys) h = never (sym h)
numbers-same (x ∷ xs) [] h = never (sym h)
numbers-same (x ∷ xs) (y ∷ ys) h =
    let (first, rest) = both (eqb x y) (same_numbers xs ys) h in
    ap₂ (λ (n : ℕ) (ns : List ℕ). n ∷ ns) (eqb-true x y first) (numbers-same xs ys rest)

-- Lists of rows that pass the test are one list.
rows_same : (xs ys : List (List ℕ)) → same_rows xs ys ≡ true → xs ≡ ys
rows_same [] [] h = refl
rows_same [] (y ∷ ys) h = never (sym h)
rows_same (x ∷ xs) [] h = never (sym h)
rows_same (x ∷ xs) (y ∷ ys) h =
    let (first, rest) = both (same_numbers x y) (same_rows xs ys) h in
    ap₂ (λ (n : List ℕ) (ns : List (List ℕ)). n ∷ ns) (numbers-same x y first) (rows_same xs ys rest)

-- In a table that passes the test every entry comes out as written.
pub each-of-all : (table : List Example) → all_hold table ≡ true → (i : ℕ) → i < length table
    → (example_at table i).computed ≡ (example_at table i).written
each-of-all [] h i l = absurd (not-suc-le-zero l)
each-of-all (e ∷ es) h zero l =
    let (first, rest) = both (same_rows e.computed e.written) (all_hold es) h in
    rows_same e.computed e.written first
each-of-all (e ∷ es) h (suc i) l =
    let (first, rest) = both (same_rows e.computed e.written) (all_hold es) h in
    each-of-all es rest i (le_of_suc-le-suc l)

-- The sheets pass the test: by computation.
pub sheets-hold : all_hold sheets ≡ true
unfolding run_of after starts_from over first_that first_best how_many sum fill fill_from distance sq
    add_strip short_round plain_round palette_from_shades palette_from_groups map_strip figure div of_int
sheets-hold = refl
