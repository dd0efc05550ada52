-- A test as a number, and counting places that pass a test.
use Rattle.std.specs.Prelude.{ℕ, zero, suc, ◌+◌, Bool, cond}

-- 1 where the test holds, else 0
abbrev pub bit : Bool → ℕ
bit test = cond test 1 0

-- how many of the places below n pass the test b
unfoldable pub how_many : ℕ → (ℕ → Bool) → ℕ
how_many zero b = zero
how_many (suc n) b = cond (b n) (how_many n b + 1) (how_many n b)
