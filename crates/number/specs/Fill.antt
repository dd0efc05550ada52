-- Filling the front of a list, or a stretch of it.
use Rattle.std.specs.Prelude.{ℕ, zero, suc, List, [], ◌∷◌, ◌++◌, take, drop}

-- the list d with f 0, .., f (n - 1) in its first n places, as far as it goes; the other places keep their values
unfoldable pub fill : ℕ → (ℕ → ℕ) → List ℕ → List ℕ
fill zero f d = d
fill (suc n) f [] = []
fill (suc n) f (x ∷ d) = f zero ∷ fill n (λ i. f (suc i)) d

-- the list d with f 0, .., f (n - 1) from place a on, as far as it goes; the other places keep their values
unfoldable pub fill_from : ℕ → ℕ → (ℕ → ℕ) → List ℕ → List ℕ
fill_from a n f d = take a d ++ fill n f (drop a d)
