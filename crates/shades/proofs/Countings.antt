-- A loop that counts the places that pass a test, by adding the test as a number.
use Prim.Native.Nat.{ℕ, ◌+◌, ◌<◌}
use mathlib.Core.Bool.{Bool, true, false}
use mathlib.Core.Path.{◌≡◌, refl, ◌∙◌}
use Rattle.std.specs.Int.{from_bool}
use Rattle.number.specs.{bit}
use Rattle.number.proofs.Tallies.{Counting, counting-step}

-- a test as a number is the library's
from-bool-bit : (t : Bool) → from_bool t ≡ bit t
from-bool-bit true = refl
from-bool-bit false = refl

-- one place more
pub counting-more : {n count i : ℕ} {b : ℕ → Bool} → Counting n b count i → i < n → (x : ℕ) → x ≡ from_bool (b i)
    → Counting n b (count + x) (i + 1)
counting-more {b = b} t h x e = counting-step t h x (e ∙ from-bool-bit (b _))
