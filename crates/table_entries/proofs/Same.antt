-- Sound tables are told apart by the weights of their colours.
use mathlib.Core.Path.{◌≡◌, refl, sym, ap₂, subst, ◌∙◌}
use mathlib.Core.Bool.{true}
use mathlib.Core.Logic.{inl, inr}
use mathlib.Core.List.{List, [], ◌∷◌}
use Prim.Native.Nat.{ℕ, ◌+◌, ◌≤◌, ◌<◌}
use native.Mathlib.Omega.{arith}
use lib.Dec.{ltb, eqb}
use borrow.Author.Tests.{ltb-true, ltb-false, eqb-true, eqb-false, eq-eqb, ne_eqb}
use Rattle.number.proofs.Cases.{bool}
use Rattle.table_entries.specs.Content.{Entry, entry, weight_of, sound}
use Rattle.table_entries.proofs.Sounds.{Sound, sound-cons}
use Rattle.table_entries.proofs.Gives.{weight-low}

-- the first entry's weight counts for its own colour
weight-head : (e : Entry) (es : List Entry) → weight_of e.key (e ∷ es) ≡ e.weight + weight_of e.key es
weight-head e es = simp (eq-eqb e.key e.key refl)

-- and for no other
weight-tail : (c : ℕ) (e : Entry) (es : List Entry) → (e.key ≡ c → ⊥) → weight_of c (e ∷ es) ≡ weight_of c es
weight-tail c e es n = simp (ne_eqb e.key c n) (omega arith)

-- a lower first key would be a colour that the other table does not hold
not_lower : (low : ℕ) (e f : Entry) (es fs : List Entry) → sound low (e ∷ es) ≡ true → sound low (f ∷ fs) ≡ true
    → weight_of e.key (e ∷ es) ≡ weight_of e.key (f ∷ fs) → f.key ≤ e.key
not_lower low e f es fs a b h = elim (bool (ltb e.key f.key)) [
  | inr t ↦ ltb-false _ _ t
  | inl t ↦ absurd (
      let l : e.key < f.key = ltb-true _ _ t in
      let sf : Sound low f fs = sound-cons low f fs b in
      let se : Sound low e es = sound-cons low e es a in
      let n : f.key ≡ e.key → ⊥ = λ q. omega arith in
      omega (
        arith,
        weight-head e es,
        weight-tail e.key f fs n,
        weight-low e.key (f.key + 1) fs sf.rest (omega arith),
      ))
]

-- a table with an entry is not an empty one
not-empty : (low : ℕ) (e : Entry) (es : List Entry) → sound low (e ∷ es) ≡ true → weight_of e.key (e ∷ es) ≡ 0 → ⊥
not-empty low e es a h =
    let s : Sound low e es = sound-cons low e es a in omega (arith, h, weight-head e es)

-- Two sound tables that give every colour the same weight are the same: their first keys are equal, since neither is
-- lower; so are those entries' weights; and the rests give every colour the same weight.
pub same-table : (low : ℕ) (es fs : List Entry) → sound low es ≡ true → sound low fs ≡ true
    → ((c : ℕ) → weight_of c es ≡ weight_of c fs) → es ≡ fs
same-table low [] [] a b h = refl
same-table low [] (f ∷ fs) a b h = absurd (not-empty low f fs b (sym (h f.key)))
same-table low (e ∷ es) [] a b h = absurd (not-empty low e es a (h e.key))
same-table low (e ∷ es) (f ∷ fs) a b h =
    let se : Sound low e es = sound-cons low e es a in
    let sf : Sound low f fs = sound-cons low f fs b in
    let below : f.key ≤ e.key = not_lower low e f es fs a b (h e.key) in
    let above : e.key ≤ f.key = not_lower low f e fs es b a (sym (h f.key)) in
    let k : e.key ≡ f.key = omega arith in
    let none-e : weight_of e.key es ≡ 0 = weight-low e.key (e.key + 1) es se.rest (omega arith) in
    let none-f : weight_of f.key fs ≡ 0 = weight-low f.key (f.key + 1) fs sf.rest (omega arith) in
    let none-f-e : weight_of f.key es ≡ 0 = rw k at none-e in
    let head-e : weight_of f.key (e ∷ es) ≡ e.weight + weight_of f.key es =
    subst (λ (x : ℕ). weight_of x (e ∷ es) ≡ e.weight + weight_of x es) k (weight-head e es) in
    let w : e.weight ≡ f.weight = omega (arith, h f.key, weight-head f fs) in
    ap₂ (λ (x : Entry) (xs : List Entry). x ∷ xs) (ap₂ entry k w)
    (same-table (f.key + 1) es fs (rw k at se.rest) sf.rest (λ c. elim (bool (eqb f.key c)) [
      | inl t ↦ let q : f.key ≡ c = eqb-true _ _ t in rw (← q) (none-f-e ∙ sym none-f)
      | inr t ↦
          let n : f.key ≡ c → ⊥ = eqb-false _ _ t in
          let n-e : e.key ≡ c → ⊥ = λ q. n (sym k ∙ q) in
          sym (weight-tail c e es n-e) ∙ h c ∙ weight-tail c f fs n
    ]))
