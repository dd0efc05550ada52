-- The library's lesser and greater of two numbers are those of crate `number`.
use Prim.Native.Nat.{ℕ, min, max}
use mathlib.Core.Path.{◌≡◌}
use native.Mathlib.Omega.{arith}
use Rattle.std.proofs.lemmas.Bool.Decides.{nat_tests}
use Rattle.number.specs.{lesser_of, greater_of}

-- the lesser
pub min-lesser : (a b : ℕ) → min a b ≡ lesser_of a b
min-lesser a b = grind (arith, nat_tests)

-- the greater
pub max-greater : (a b : ℕ) → max a b ≡ greater_of a b
max-greater a b = grind (arith, nat_tests)
