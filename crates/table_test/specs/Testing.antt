-- What the test of a table looks for at one place of the two slices; past the end of a slice stand zeros.
use Rattle.std.specs.Prelude.{ℕ, ◌+◌, Bool, List, get_or, leb, eqb}

-- the key after place i is not above the key at i
abbrev pub falls_at : List ℕ → ℕ → Bool
falls_at ks i = leb (get_or ks (i + 1) 0) (get_or ks i 0)

-- the weight at place i is 0
abbrev pub empty_at : List ℕ → ℕ → Bool
empty_at ws i = eqb (get_or ws i 0) 0

-- the weight at place i
abbrev pub weight_at : List ℕ → ℕ → ℕ
weight_at ws i = get_or ws i 0
