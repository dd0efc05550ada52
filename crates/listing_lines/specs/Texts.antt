-- The lines of a listing, as numbers, and the line of a refusal.
use Rattle.std.specs.Prelude.{ℕ, zero, suc, ◌+◌, ◌*◌, ◌/◌, List, [], ◌∷◌, ◌++◌, eqb, get_or, length}
use Rattle.number.specs.{how_many}
use Rattle.texts.specs.{line_of}
use Rattle.listing_lines.specs.declared.Summary.{Summary}

-- ---- rooms

-- room that a number of 64 bits and the byte behind it never go past
abbrev pub most_field : ℕ
most_field = 21

-- room that a line of at most six numbers, or the line of a refusal, never goes past
abbrev pub most_line : ℕ
most_line = 128

-- the room of a listing: a first line, a line for each of 64 shades, and a last line
abbrev pub most_text : ℕ
most_text = 8448

-- ---- lines

-- a refusal prints the one line `refused N`
abbrev pub refused_text : ℕ → List ℕ
refused_text n = 114 ∷ 101 ∷ 102 ∷ 117 ∷ 115 ∷ 101 ∷ 100 ∷ 32 ∷ line_of (n ∷ [])

-- line 1 gives table colours, pixels, rounds, settled as 1 or 0, final total, distances
abbrev pub head_fields : Summary → List ℕ
head_fields s = s.used ∷ s.pixels ∷ s.rounds ∷ s.settled ∷ s.total ∷ s.distances ∷ []

-- the pixels mapped to shade q, from the index picture
abbrev pub mapped_to : List ℕ → ℕ → ℕ
mapped_to index q = how_many (length index) (λ i. eqb (get_or index i 0) q)

-- one line a shade gives number, R, G, B, pixels mapped to it
abbrev pub shade_fields : List ℕ → ℕ → ℕ → List ℕ
shade_fields palette q pixels =
    q ∷ get_or palette (3 * q) 0 ∷ get_or palette (3 * q + 1) 0 ∷ get_or palette (3 * q + 2) 0 ∷ pixels ∷ []

-- these lines for the first k shades, of which shade q has `pixels q`
abbrev pub shade_rows : ℕ → List ℕ → (ℕ → ℕ) → List (List ℕ)
shade_rows zero palette pixels = []
shade_rows (suc k) palette pixels = shade_rows k palette pixels ++ shade_fields palette k (pixels k) ∷ []

-- all lines: line 1, a line for each shade of the palette, and the last line, the mapping error
abbrev pub lines_for : Summary → List ℕ → List ℕ → List (List ℕ)
lines_for s palette index =
    head_fields s ∷ (shade_rows (length palette / 3) palette (mapped_to index) ++ (s.error ∷ []) ∷ [])

-- field j of line i, both counted from 0; where there is none it is 0
abbrev pub field_at : List (List ℕ) → ℕ → ℕ → ℕ
field_at lines i j = get_or (get_or lines i []) j 0
