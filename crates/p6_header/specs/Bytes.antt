-- The bytes of "P6".
use Rattle.std.specs.Prelude.{ℕ}

-- the first
abbrev pub letter_p : ℕ
letter_p = 80

-- and the second
abbrev pub figure_six : ℕ
figure_six = 54
