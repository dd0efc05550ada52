-- A table of examples, and the one test of them all.
use Rattle.std.specs.Prelude.{ℕ, Bool, true, false, ◌&&◌, List, [], ◌∷◌, eqb, get_or}

-- the numbers that the definitions give, and the numbers that document 01 writes down, row by row
pub record Example : Type 0 where
  pub computed : List (List ℕ)
  pub written : List (List ℕ)

-- two rows have the same numbers
abbrev pub same_numbers : List ℕ → List ℕ → Bool
same_numbers [] [] = true
same_numbers [] (y ∷ ys) = false
same_numbers (x ∷ xs) [] = false
same_numbers (x ∷ xs) (y ∷ ys) = eqb x y && same_numbers xs ys

-- two lists have the same rows
abbrev pub same_rows : List (List ℕ) → List (List ℕ) → Bool
same_rows [] [] = true
same_rows [] (y ∷ ys) = false
same_rows (x ∷ xs) [] = false
same_rows (x ∷ xs) (y ∷ ys) = same_numbers x y && same_rows xs ys

-- every example comes out as written
abbrev pub all_hold : List Example → Bool
all_hold [] = true
all_hold (e ∷ es) = same_rows e.computed e.written && all_hold es

-- example i of a table, counted from 0; past the end stands an example without rows
abbrev pub example_at : List Example → ℕ → Example
example_at table i = get_or table i (record { computed = []; written = [] })
