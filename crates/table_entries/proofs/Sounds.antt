-- Laws of sound entries: what the test says of the first entry, and that keys rise.
use mathlib.Core.Path.{◌≡◌, sym}
use mathlib.Core.Bool.{true}
use mathlib.Core.Logic.{inl, inr}
use mathlib.Core.List.{List, [], ◌∷◌}
use Prim.Native.Nat.{ℕ, zero, suc, ◌+◌, ◌≤◌, ◌<◌}
use native.Mathlib.Omega.{arith}
use native.Mathlib.Nat.{le_of_suc-le-suc, not-suc-le-zero}
use lib.ListN.{length, get_or}
use lib.Dec.{ltb}
use borrow.Author.Tests.{le-ltb, ltb-false}
use Rattle.number.proofs.Cases.{bool, never}
use Rattle.colour.specs.{most_key}
use Rattle.table_entries.specs.Content.{Entry, keys_of, sound}

-- the first entry's key and weight are as they should be, and the rest rises from that key on
pub record Sound (low : ℕ) (e : Entry) (es : List Entry) : Type 0 where
  pub from : low ≤ e.key
  pub upto : e.key ≤ most_key
  pub some : 1 ≤ e.weight
  pub rest : sound (e.key + 1) es ≡ true

-- what the test says where there is a first entry
pub sound-cons : (low : ℕ) (e : Entry) (es : List Entry) → sound low (e ∷ es) ≡ true → Sound low e es
sound-cons low e es h = elim (bool (ltb e.key low)) [
  | inl t ↦ never (sym (simp t at h))
  | inr t ↦ elim (bool (ltb most_key e.key)) [
    | inl u ↦ never (sym (simp (t, u) at h))
    | inr u ↦ elim (bool (ltb e.weight 1)) [
      | inl v ↦ never (sym (simp (t, u, v) at h))
      | inr v ↦ record {
        from = ltb-false _ _ t;
        upto = ltb-false _ _ u;
        some = ltb-false _ _ v;
        rest = simp (t, u, v) at h;
      }
    ]
  ]
]

-- what makes the test hold
pub cons-sound : (low : ℕ) (e : Entry) (es : List Entry) → Sound low e es → sound low (e ∷ es) ≡ true
cons-sound low e es s =
    simp (le-ltb e.key low s.from, le-ltb most_key e.key s.upto, le-ltb e.weight 1 s.some) s.rest

-- no key is below `low`
sound-low : (low : ℕ) (es : List Entry) → sound low es ≡ true → (i : ℕ) → i < length es → low ≤ get_or (keys_of es) i 0
sound-low low [] h i l = absurd (not-suc-le-zero l)
sound-low low (e ∷ es) h zero l = (sound-cons low e es h).from
sound-low low (e ∷ es) h (suc i) l =
    let s : Sound low e es = sound-cons low e es h in
    omega (arith, s.from, sound-low (e.key + 1) es s.rest i (le_of_suc-le-suc l))

-- a key is above every key before it
pub sound-rises : (low : ℕ) (es : List Entry) → sound low es ≡ true → (p q : ℕ) → p < q → q < length es
    → get_or (keys_of es) p 0 < get_or (keys_of es) q 0
sound-rises low [] h p q a b = absurd (not-suc-le-zero b)
sound-rises low (e ∷ es) h zero zero a b = absurd (not-suc-le-zero a)
sound-rises low (e ∷ es) h zero (suc q) a b =
    omega (arith, sound-low (e.key + 1) es (sound-cons low e es h).rest q (le_of_suc-le-suc b))
sound-rises low (e ∷ es) h (suc p) zero a b = absurd (not-suc-le-zero a)
sound-rises low (e ∷ es) h (suc p) (suc q) a b =
    sound-rises (e.key + 1) es (sound-cons low e es h).rest p q (le_of_suc-le-suc a) (le_of_suc-le-suc b)

-- every key is at most 16,777,215
pub sound-keys : (low : ℕ) (es : List Entry) → sound low es ≡ true → (i : ℕ) → get_or (keys_of es) i 0 ≤ most_key
sound-keys low [] h i = omega arith
sound-keys low (e ∷ es) h zero = (sound-cons low e es h).upto
sound-keys low (e ∷ es) h (suc i) = sound-keys (e.key + 1) es (sound-cons low e es h).rest i
