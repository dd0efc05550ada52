-- The drawing of sheets A to E: two by two pixels, (0,0,0) three times and (10,0,0); and the tables of the sheets.
use Rattle.std.specs.Prelude.{ℕ, List, [], ◌∷◌, false, pos, Float, replicate}
use Rattle.std.specs.Float.{fin}
use Rattle.table.specs.{Record}

-- its bytes
abbrev pub drawing : List ℕ
drawing = 0 ∷ 0 ∷ 0 ∷ 0 ∷ 0 ∷ 0 ∷ 0 ∷ 0 ∷ 0 ∷ 10 ∷ 0 ∷ 0 ∷ []

-- sheet A's table: its keys
abbrev pub keys_a : List ℕ
keys_a = 0 ∷ 655360 ∷ []

-- its weights
abbrev pub weights_a : List ℕ
weights_a = 3 ∷ 1 ∷ []

-- and its record
abbrev pub record_a : Record
record_a = record { used = 2; pixels = 4; red = 10; green = 0; blue = 0 }

-- sheet C's palette, that of sheet B's shade
abbrev pub palette_c : List ℕ
palette_c = 3 ∷ 0 ∷ 0 ∷ []

-- a whole number as a binary64 number: n for an odd n, or 0
abbrev pub whole : ℕ → Float
whole n = fin false n (pos 0)

-- sheet F's weights on the same colours
abbrev pub weights_f : List ℕ
weights_f = 1 ∷ 1 ∷ []

-- and their record
abbrev pub record_f : Record
record_f = record { used = 2; pixels = 2; red = 10; green = 0; blue = 0 }

-- sheet G's table, the colour (5,0,0) once: its key
abbrev pub keys_g : List ℕ
keys_g = 327680 ∷ []

-- its weight
abbrev pub weights_g : List ℕ
weights_g = 1 ∷ []

-- its record
abbrev pub record_g : Record
record_g = record { used = 1; pixels = 1; red = 5; green = 0; blue = 0 }

-- sheet H's table, 17 pixels (10,0,0) and 15 of (11,0,0): its keys
abbrev pub keys_h : List ℕ
keys_h = 655360 ∷ 720896 ∷ []

-- its weights
abbrev pub weights_h : List ℕ
weights_h = 17 ∷ 15 ∷ []

-- and its record: the red levels come to 335
abbrev pub record_h : Record
record_h = record { used = 2; pixels = 32; red = 335; green = 0; blue = 0 }

-- members as they are lent: places past those that a call writes keep these values
abbrev pub members : List ℕ
members = 8 ∷ 8 ∷ 8 ∷ []

-- and totals
abbrev pub totals : List ℕ
totals = replicate 100 5
