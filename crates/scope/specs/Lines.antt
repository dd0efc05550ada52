-- A line of the table is an example of the crate sheets: what the definitions give, beside what document 01 writes.
use Rattle.std.specs.Prelude.{ℕ, Bool, cond, List, [], ◌∷◌, map}
use Rattle.refusal.specs.{Row, number_of}
use Rattle.sheets.specs.{Example}

-- some numbers by the definitions, and in literals
abbrev pub lists : List ℕ → List ℕ → Example
lists ns ms = record { computed = ns ∷ []; written = ms ∷ [] }

-- one number
abbrev pub says : ℕ → ℕ → Example
says n m = lists (n ∷ []) (m ∷ [])

-- the numbers of a list at which a test holds
abbrev pub those : (ℕ → Bool) → List ℕ → List ℕ
those test [] = []
those test (n ∷ ns) = cond (test n) (n ∷ those test ns) (those test ns)

-- the numbers of some rows, in their order
abbrev pub order_of : List Row → List ℕ
order_of = map (λ (r : Row). number_of r.gives)
