-- What is shown of twins, each theorem in full; its body names the proof.
-- `twins_of p` is the pair that is told of the palette p (specs/Pairs.antt): the contract of `twin_of` says that its
-- answer is that pair, for any bytes.
use Prim.Native.Nat.{ℕ}
use mathlib.Core.Bool.{true, false}
use mathlib.Core.List.{List}
use mathlib.Core.Logic.{◌↔◌}
use mathlib.Core.Path.{◌≡◌, sym, ◌∙◌}
use lib.Dec.{ltb}
use Rattle.std.specs.Prelude.{Option, None}
use Rattle.std.specs.Option.{IsSomeAnd, is_some}
use Rattle.palette_twins.specs.Pairs.{twin_shade, twins_of, no_twins, told_pair, TwoEqual, AreTwins, AllDiffer}
use Rattle.palette_twins.specs.declared.Twins.{Twins}
use Rattle.palette_twins.proofs.Meaning as meaning

-- Whatever meets the contract of `twin_of` on an input is one answer.
pub twin-of-only : (p : List ℕ) {r r' : Option Twins} → r ≡ twins_of p → r' ≡ twins_of p → r ≡ r'
twin-of-only p a b = a ∙ sym b

-- The test of TWIN SHADE holds exactly when two entries are equal.
pub twin-shade-exactly : (p : List ℕ) → (twin_shade p ≡ true) ↔ TwoEqual p
twin-shade-exactly = meaning.twin-shade-exactly

-- And it fails exactly when all entries differ.
pub all-differ-exactly : (p : List ℕ) → (twin_shade p ≡ false) ↔ AllDiffer p
all-differ-exactly = meaning.all-differ-exactly

-- Where it holds a pair is told, of two equal entries, the lower number first, and no entries with smaller higher
-- number are equal.
pub twins-are : (p : List ℕ) → twin_shade p ≡ true → IsSomeAnd (twins_of p) (AreTwins p)
twins-are = meaning.twins-are

-- There is one such pair only.
pub twins-only : (p : List ℕ) {t u : Twins} → AreTwins p t → AreTwins p u → t ≡ u
twins-only = meaning.twins-only

-- Where it fails none is.
pub none_told : (p : List ℕ) → twin_shade p ≡ false → twins_of p ≡ None
none_told = meaning.none_told

-- So what is told tells the test: it holds exactly where a pair is.
pub told-exactly : (p : List ℕ) → twin_shade p ≡ is_some (twins_of p)
told-exactly = meaning.told-exactly

-- In numbers, where it holds they are the lower and the higher number of that pair.
pub pair-are : (p : List ℕ) → twin_shade p ≡ true → AreTwins p (told_pair (twins_of p))
pair-are = meaning.pair-are

-- Where it fails they are 0 and 0.
pub none-in-numbers : (p : List ℕ) → twin_shade p ≡ false → told_pair (twins_of p) ≡ no_twins
none-in-numbers = meaning.none-in-numbers

-- So the numbers tell the test: it holds exactly where the higher one is above 0.
pub told-in-numbers : (p : List ℕ) → twin_shade p ≡ ltb 0 (told_pair (twins_of p)).higher
told-in-numbers = meaning.told-in-numbers

-- And none is told exactly where all entries differ.
pub none-told-exactly : (p : List ℕ) → (twins_of p ≡ None) ↔ AllDiffer p
none-told-exactly = meaning.none-told-exactly
