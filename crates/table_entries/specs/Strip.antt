-- A strip: the bytes R, G, B of its pixels, one pixel after the other.
use Rattle.std.specs.Prelude.{ℕ, ◌+◌, ◌≤◌, cond, List, [], ◌∷◌, get_or, eqb}
use Rattle.number.specs.{sum_of}
use Rattle.colour.specs.{most_key, key_of}

-- the keys of a strip's pixels, from first to last; bytes left over at the end are no pixel
abbrev pub strip_keys : List ℕ → List ℕ
strip_keys [] = []
strip_keys (r ∷ []) = []
strip_keys (r ∷ (g ∷ [])) = []
strip_keys (r ∷ (g ∷ (b ∷ s))) = key_of r g b ∷ strip_keys s

-- the key of the pixel whose three bytes stand from place i on
abbrev pub key_at : List ℕ → ℕ → ℕ
key_at s i = key_of (get_or s i 0) (get_or s (i + 1) 0) (get_or s (i + 2) 0)

-- how many pixels of a list have colour c
abbrev pub count_of : ℕ → List ℕ → ℕ
count_of c = sum_of (λ (k : ℕ). cond (eqb k c) 1 0)

-- all numbers of a list are keys: none is above 16,777,215
pub data Keys : List ℕ → Type 0 where
  none : Keys []
  more : {k : ℕ} {ps : List ℕ} → k ≤ most_key → Keys ps → Keys (k ∷ ps)
