-- A refusal's number tells which refusal it is. The refusals are laid out by number, numbers between them left free,
-- and each is found at its own.
use Prim.Native.Nat.{ℕ, zero, suc, ◌≤◌}
use mathlib.Core.Path.{◌≡◌, refl, sym, ap, ◌∙◌}
use mathlib.Core.List.{List, [], ◌∷◌}
use native.Mathlib.Omega.{arith}
use Rattle.std.specs.Prelude.{Option, None, Some}
use Rattle.std.proofs.lemmas.Option.{none-some, same_Some}
use Rattle.refusal.specs.Numbers.{
  Refusal,
  BadStrip,
  BadTable,
  Full,
  BadCount,
  FewColours,
  BadLimit,
  ShortRoom,
  BadCentre,
  BadMember,
  BadPalette,
  ManyPixels,
  BadHeader,
  BadSize,
  BadDepth,
  BadRaster,
  TwinShade,
  number_of,
  done,
}

-- what stands in a list at a place counted from 1; nothing at 0, at a free place and past the end
abbrev nth : List (Option Refusal) → ℕ → Option Refusal
nth [] n = None
nth (r ∷ rs) zero = None
nth (r ∷ rs) (suc zero) = r
nth (r ∷ rs) (suc (suc n)) = nth rs (suc n)

-- the refusals by rising number; 16 and 17 are no refusal's
abbrev refusals : List (Option Refusal)
refusals =
    Some BadStrip ∷ Some BadTable ∷ Some Full ∷ Some BadCount ∷ Some FewColours ∷ Some BadLimit ∷
    Some ShortRoom ∷ Some BadCentre ∷ Some BadMember ∷ Some BadPalette ∷ Some ManyPixels ∷ Some BadHeader ∷
    Some BadSize ∷ Some BadDepth ∷ Some BadRaster ∷ None ∷ None ∷ Some TwinShade ∷ []

-- the refusal of a number; none where it is no refusal's
abbrev pub refusal_at : ℕ → Option Refusal
refusal_at = nth refusals

-- that of a refusal's number is that refusal
pub refusal-found : (refusal : Refusal) → refusal_at (number_of refusal) ≡ Some refusal
refusal-found BadStrip = refl
refusal-found BadTable = refl
refusal-found Full = refl
refusal-found BadCount = refl
refusal-found FewColours = refl
refusal-found BadLimit = refl
refusal-found ShortRoom = refl
refusal-found BadCentre = refl
refusal-found BadMember = refl
refusal-found BadPalette = refl
refusal-found ManyPixels = refl
refusal-found BadHeader = refl
refusal-found BadSize = refl
refusal-found BadDepth = refl
refusal-found BadRaster = refl
refusal-found TwinShade = refl

-- refusals of one number are one refusal
pub number-only : (a b : Refusal) → number_of a ≡ number_of b → a ≡ b
number-only a b e = same_Some a b (sym (refusal-found a) ∙ ap refusal_at e ∙ refusal-found b)

-- no refusal has the number of `done`
pub number-not-done : (a : Refusal) → ¬ (number_of a ≡ done)
number-not-done a e = none-some a (sym (ap refusal_at e) ∙ refusal-found a)

-- the numbers go up to 18
pub number-most : (a : Refusal) → number_of a ≤ 18
number-most BadStrip = omega arith
number-most BadTable = omega arith
number-most Full = omega arith
number-most BadCount = omega arith
number-most FewColours = omega arith
number-most BadLimit = omega arith
number-most ShortRoom = omega arith
number-most BadCentre = omega arith
number-most BadMember = omega arith
number-most BadPalette = omega arith
number-most ManyPixels = omega arith
number-most BadHeader = omega arith
number-most BadSize = omega arith
number-most BadDepth = omega arith
number-most BadRaster = omega arith
number-most TwinShade = omega arith
