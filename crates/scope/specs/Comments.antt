-- Headers with comments (document 02): what is read of each, or the place it fails.
use Rattle.std.specs.Prelude.{ℕ, List, [], ◌∷◌, ◌++◌}
use Rattle.p6_header.specs.{header_of}
use Rattle.sheets.specs.{Example}
use Rattle.scope.specs.Lines.{lists}
use Rattle.scope.specs.Bounds.{told}

-- "P6", and the text `1 1 255 `, with a byte behind it that is none of the header's
abbrev pub after_letters : List ℕ → List ℕ
after_letters bytes = 80 ∷ 54 ∷ (bytes ++ (49 ∷ 32 ∷ 49 ∷ 32 ∷ 50 ∷ 53 ∷ 53 ∷ 32 ∷ 35 ∷ []))

-- "P6 1", these bytes, `1 255 `
abbrev pub after_width : List ℕ → List ℕ
after_width bytes = 80 ∷ 54 ∷ 32 ∷ 49 ∷ (bytes ++ (49 ∷ 32 ∷ 50 ∷ 53 ∷ 53 ∷ 32 ∷ []))

-- "P6 1 1", these bytes, `255`, and these
abbrev pub around_depth : List ℕ → List ℕ → List ℕ
around_depth bytes behind = 80 ∷ 54 ∷ 32 ∷ 49 ∷ 32 ∷ 49 ∷ (bytes ++ (50 ∷ 53 ∷ 53 ∷ behind))

-- what a header says, beside what it must say
abbrev reads : List ℕ → List ℕ → Example
reads input answer = lists (told (header_of input)) answer

-- comments that count as one white byte, and those that cannot stand or never end
abbrev pub comments : List Example
comments =
    -- right after "P6": `#c` LF; `#` LF alone; ended by CR; CR LF, where the LF is one more white byte; behind a blank
    reads (after_letters (35 ∷ 99 ∷ 10 ∷ [])) (0 ∷ 1 ∷ 1 ∷ 255 ∷ 13 ∷ [])
    ∷ reads (after_letters (35 ∷ 10 ∷ [])) (0 ∷ 1 ∷ 1 ∷ 255 ∷ 12 ∷ [])
    ∷ reads (after_letters (35 ∷ 99 ∷ 13 ∷ [])) (0 ∷ 1 ∷ 1 ∷ 255 ∷ 13 ∷ [])
    ∷ reads (after_letters (35 ∷ 99 ∷ 13 ∷ 10 ∷ [])) (0 ∷ 1 ∷ 1 ∷ 255 ∷ 14 ∷ [])
    ∷ reads (after_letters (32 ∷ 35 ∷ 99 ∷ 10 ∷ [])) (0 ∷ 1 ∷ 1 ∷ 255 ∷ 14 ∷ [])
    -- several in a row; digits, NUL and `#` inside one
    ∷ reads (after_letters (35 ∷ 10 ∷ 35 ∷ 99 ∷ 13 ∷ 9 ∷ 35 ∷ 10 ∷ [])) (0 ∷ 1 ∷ 1 ∷ 255 ∷ 18 ∷ [])
    ∷ reads (after_letters (35 ∷ 55 ∷ 32 ∷ 0 ∷ 35 ∷ 10 ∷ [])) (0 ∷ 1 ∷ 1 ∷ 255 ∷ 16 ∷ [])
    -- right after the width, and after a width of five digits; right before the depth
    ∷ reads (after_width (35 ∷ 10 ∷ [])) (0 ∷ 1 ∷ 1 ∷ 255 ∷ 12 ∷ [])
    ∷ reads (after_width (48 ∷ 48 ∷ 48 ∷ 48 ∷ 35 ∷ 10 ∷ [])) (0 ∷ 10000 ∷ 1 ∷ 255 ∷ 16 ∷ [])
    ∷ reads (around_depth (32 ∷ 35 ∷ 99 ∷ 10 ∷ []) (32 ∷ [])) (0 ∷ 1 ∷ 1 ∷ 255 ∷ 14 ∷ [])
    ∷ reads (around_depth (35 ∷ 10 ∷ []) (32 ∷ [])) (0 ∷ 1 ∷ 1 ∷ 255 ∷ 12 ∷ [])
    -- refused at the `#`: before "P6", inside it, after the depth's first digits
    ∷ reads (35 ∷ 10 ∷ after_letters (32 ∷ [])) (12 ∷ 0 ∷ [])
    ∷ reads (80 ∷ 35 ∷ 10 ∷ 54 ∷ []) (12 ∷ 1 ∷ [])
    ∷ reads (around_depth (32 ∷ []) (35 ∷ 10 ∷ 32 ∷ [])) (12 ∷ 10 ∷ [])
    -- after the depth's white byte it is raster
    ∷ reads (around_depth (32 ∷ []) (10 ∷ 35 ∷ 10 ∷ [])) (0 ∷ 1 ∷ 1 ∷ 255 ∷ 11 ∷ [])
    -- one that never ends fails at the input's length; so does an input that ends behind one
    ∷ reads (80 ∷ 54 ∷ 35 ∷ []) (12 ∷ 3 ∷ [])
    ∷ reads (80 ∷ 54 ∷ 32 ∷ 49 ∷ 32 ∷ 35 ∷ 35 ∷ 0 ∷ 49 ∷ []) (12 ∷ 9 ∷ [])
    ∷ reads (80 ∷ 54 ∷ 32 ∷ 49 ∷ 32 ∷ 49 ∷ 35 ∷ 32 ∷ []) (12 ∷ 8 ∷ [])
    ∷ reads (80 ∷ 54 ∷ 35 ∷ 10 ∷ []) (12 ∷ 4 ∷ [])
    -- a letter behind a comment cannot stand
    ∷ reads (80 ∷ 54 ∷ 35 ∷ 10 ∷ 120 ∷ []) (12 ∷ 4 ∷ [])
    ∷ []
