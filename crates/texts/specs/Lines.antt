-- Lines of numbers, as bytes.
use Rattle.std.specs.Prelude.{ℕ, List, [], ◌∷◌, ◌++◌}
use Rattle.grammar.specs.{blank, line_feed, decimal_text}

-- fields are decimal, one blank between, and a line ends with LF
abbrev pub line_of : List ℕ → List ℕ
line_of [] = line_feed ∷ []
line_of (number ∷ []) = decimal_text number ++ line_feed ∷ []
line_of (number ∷ next ∷ others) = decimal_text number ++ blank ∷ line_of (next ∷ others)

-- lines one behind the other
abbrev pub lines_of : List (List ℕ) → List ℕ
lines_of [] = []
lines_of (line ∷ others) = line_of line ++ lines_of others
