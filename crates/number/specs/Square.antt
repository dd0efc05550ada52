-- The gap between two numbers, and its square.
use Rattle.std.specs.Prelude.{ℕ, ◌+◌, ◌-◌, ◌*◌}

-- how far apart two numbers are; one of the two differences is 0
abbrev pub gap : ℕ → ℕ → ℕ
gap a b = (a - b) + (b - a)

-- the squared difference
unfoldable pub sq : ℕ → ℕ → ℕ
sq a b = gap a b * gap a b
