-- A strip of a picture: the bytes R, G, B of its pixels, from first to last.
use Rattle.std.specs.Prelude.{ℕ, ◌%◌, ◌<◌, Bool, false, not, List, [], ◌∷◌, ◌++◌, ◌≡◌, eqb, get_or, length}

-- BAD STRIP: pixel bytes not a multiple of 3
abbrev pub bad_strip : List ℕ → Bool
bad_strip s = not (eqb (length s % 3) 0)

-- a list of bytes
abbrev pub Bytes : List ℕ → Type 0
Bytes s = (i : ℕ) → get_or s i 0 < 256

-- strips joined, from first to last
abbrev pub joined_strips : List (List ℕ) → List ℕ
joined_strips [] = []
joined_strips (s ∷ ss) = s ++ joined_strips ss

-- every strip has whole pixels
abbrev pub EachWhole : List (List ℕ) → Type 0
EachWhole [] = Unit {0}
EachWhole (s ∷ ss) = (bad_strip s ≡ false) × EachWhole ss
