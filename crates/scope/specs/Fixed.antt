-- Shades fixed from stock (document 02): the most of them, and each test that speaks of them at its boundary: of the
-- values tried, those at which it holds.
use Rattle.std.specs.Prelude.{List, [], ◌∷◌, ◌++◌}
use Rattle.method.specs.{state_of}
use Rattle.lloyd_stock.specs.{most_fixed, bad_fixed, bad_free, few_left}
use Rattle.palette_groups.specs.{bad_group_count}
use Rattle.sheets.specs.{Example}
use Rattle.scope.specs.Lines.{says, lists, those}
use Rattle.scope.specs.Bounds.{zeros, used_only}

-- at most 63 shades fixed, three bytes each
abbrev pub constants_fixed : List Example
constants_fixed = says most_fixed 189 ∷ []

-- row by row of document 01's table
abbrev pub bounds_fixed : List Example
bounds_fixed =
    -- 4 BAD COUNT of a palette of groups: by the shades fixed of 1, of 2 and of 64; by the coordinates, with 1 fixed
    lists (those (λ f. bad_group_count f (state_of (zeros 3) [])) (0 ∷ 1 ∷ [])) (1 ∷ [])
    ∷ lists (those (λ f. bad_group_count f (state_of (zeros 6) [])) (0 ∷ 1 ∷ 2 ∷ 3 ∷ [])) (2 ∷ 3 ∷ [])
    ∷ lists (those (λ f. bad_group_count f (state_of (zeros 192) [])) (63 ∷ 64 ∷ 18446744073709551615 ∷ []))
    (64 ∷ 18446744073709551615 ∷ [])
    ∷ lists (those (λ n. bad_group_count 1 (state_of (zeros n) [])) (3 ∷ 5 ∷ 6 ∷ 192 ∷ 195 ∷ [])) (3 ∷ 5 ∷ 195 ∷ [])
    -- and of a run with 2 fixed shades
    ∷ lists (those (bad_free (zeros 6)) (0 ∷ 1 ∷ 2 ∷ 3 ∷ 64 ∷ 65 ∷ [])) (0 ∷ 1 ∷ 2 ∷ 65 ∷ [])
    -- 5 FEW COLOURS, by the shades wanted of the colours 0 and 1: one fixed shade, which is colour 0; the same twice;
    -- two that are neither; both
    ∷ lists (those (few_left (used_only 2) (0 ∷ 1 ∷ []) (0 ∷ 0 ∷ 0 ∷ [])) (2 ∷ 3 ∷ [])) (3 ∷ [])
    ∷ lists (those (few_left (used_only 2) (0 ∷ 1 ∷ []) (zeros 6)) (3 ∷ 4 ∷ [])) (4 ∷ [])
    ∷ lists (those (few_left (used_only 2) (0 ∷ 1 ∷ []) (1 ∷ 0 ∷ 0 ∷ 0 ∷ 0 ∷ 2 ∷ [])) (3 ∷ 4 ∷ 5 ∷ [])) (5 ∷ [])
    ∷ lists (those (few_left (used_only 2) (0 ∷ 1 ∷ []) (0 ∷ 0 ∷ 1 ∷ 0 ∷ 0 ∷ 0 ∷ [])) (2 ∷ 3 ∷ [])) (3 ∷ [])
    -- 10 BAD PALETTE, by the bytes of a fixed list
    ∷ lists (those (λ n. bad_fixed (zeros n)) (0 ∷ 3 ∷ 4 ∷ 188 ∷ 189 ∷ 190 ∷ 192 ∷ [])) (0 ∷ 4 ∷ 188 ∷ 190 ∷ 192 ∷ [])
    ∷ []

-- both
abbrev pub scope_table_fixed : List Example
scope_table_fixed = constants_fixed ++ bounds_fixed
