-- Bytes with each comment replaced by one byte.
use Rattle.std.specs.Prelude.{ℕ, Bool, true, false, cond, List, [], ◌∷◌, eqb}
use Rattle.p6_gap.specs.Bytes.{hash, ends_comment}

-- outside a comment `#` opens one, and every other byte stays; inside, the byte that ends it gives the one byte
unfoldable pub replaced_from : Bool → ℕ → List ℕ → List ℕ
replaced_from inside one [] = []
replaced_from true one (byte ∷ rest) =
    cond (ends_comment byte) (one ∷ replaced_from false one rest) (replaced_from true one rest)
replaced_from false one (byte ∷ rest) =
    cond (eqb byte hash) (replaced_from true one rest) (byte ∷ replaced_from false one rest)

-- the bytes of a header with each comment replaced by this one
abbrev pub replaced : ℕ → List ℕ → List ℕ
replaced one bytes = replaced_from false one bytes
