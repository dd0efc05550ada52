-- Laws of strips: which are whole, that two whole ones joined are whole, and the parts of a strip.
use Prim.Native.Nat.{ℕ, zero, suc, ◌%◌}
use mathlib.Core.Bool.{true, false, not}
use mathlib.Core.List.{List, [], ◌∷◌, ◌++◌}
use mathlib.Core.Logic.{◌↔◌}
use mathlib.Core.Path.{◌≡◌, sym, ap}
use native.Mathlib.Omega.{arith}
use lib.Dec.{eqb}
use lib.ListN.{length, length-append}
use borrow.Author.Tests.{eqb-true, eq-eqb, ne_eqb}
use Rattle.number.proofs.Cases.{never, not-not}
use Rattle.colour.specs.Strips.{bad_strip, Bytes}

-- the test of BAD STRIP holds exactly where the bytes are not a multiple of 3
pub bad-strip-exactly : (s : List ℕ) → (bad_strip s ≡ true) ↔ (length s % 3 ≡ 0 → ⊥)
bad-strip-exactly s = (
  λ h e. never (sym (rw (eq-eqb (length s % 3) 0 e) at h)),
  λ n. ap not (ne_eqb (length s % 3) 0 n),
)

-- it fails exactly where they are
pub whole-exactly : (s : List ℕ) → (bad_strip s ≡ false) ↔ (length s % 3 ≡ 0)
whole-exactly s = (
  λ h. eqb-true (length s % 3) 0 (not-not (eqb (length s % 3) 0) h),
  λ e. ap not (eq-eqb (length s % 3) 0 e),
)

-- two whole strips joined are a whole strip
pub whole_append : (s t : List ℕ) → bad_strip s ≡ false → bad_strip t ≡ false → bad_strip (s ++ t) ≡ false
whole_append s t a b =
    let m = (whole-exactly s).0 a in
    let n = (whole-exactly t).0 b in
    (whole-exactly (s ++ t)).1 (rw length-append (omega arith))

-- what stands behind a whole strip in a whole one is whole
pub whole-behind : (s t : List ℕ) → bad_strip s ≡ false → bad_strip (s ++ t) ≡ false → bad_strip t ≡ false
whole-behind s t a b =
    let m = (whole-exactly s).0 a in
    let n = (whole-exactly (s ++ t)).0 b in
    (whole-exactly t).1 (omega (arith, length-append s t))

-- the front of a list of bytes is one
pub bytes-front : (s t : List ℕ) → Bytes (s ++ t) → Bytes s
bytes-front [] t h i = omega arith
bytes-front (x ∷ s) t h zero = h 0
bytes-front (x ∷ s) t h (suc i) = bytes-front s t (λ j. h (suc j)) i

-- and so is the rest
pub bytes-behind : (s t : List ℕ) → Bytes (s ++ t) → Bytes t
bytes-behind [] t h = h
bytes-behind (x ∷ s) t h = bytes-behind s t (λ i. h (suc i))
