-- Case splits: on a Bool, and on how a number stands to another, with the values of the tests.
use mathlib.Core.Path.{◌≡◌, refl, sym}
use mathlib.Core.Bool.{Bool, true, false, not, ◌&&◌, ◌||◌}
use mathlib.Core.Logic.{◌↔◌, ◌⊎◌, inl, inr}
use Prim.Native.Nat.{ℕ, ◌≤◌, ◌<◌}
use native.Mathlib.Omega.{arith}
use lib.Dec.{ltb, eqb}
use borrow.Author.Tests.{ltb-true, ltb-false, eqb-true, eqb-false}

-- a test holds or fails
pub bool : (b : Bool) → (b ≡ true) ⊎ (b ≡ false)
bool true = inl refl
bool false = inr refl

-- no test has both values
pub never : {X : Type 0} → true ≡ false → X
never e = absurd (let z : ◌≡◌ {A = ℕ} 0 1 = cc in omega arith)

-- of two tests joined by "and" both hold
pub both : (a b : Bool) → (a && b) ≡ true → (a ≡ true) × (b ≡ true)
both true b h = (refl, h)
both false b h = never (sym h)

-- of two tests joined by "or" neither holds
pub neither : (a b : Bool) → (a || b) ≡ false → (a ≡ false) × (b ≡ false)
neither true b h = never h
neither false b h = (refl, h)

-- two tests joined by "or" hold exactly where one of them does
pub either-exactly : (a b : Bool) → ((a || b) ≡ true) ↔ ((a ≡ true) ⊎ (b ≡ true))
either-exactly true b = (λ h. inl refl, λ h. refl)
either-exactly false b = (λ h. inr h, λ h. elim h [ inl e ↦ never (sym e) | inr e ↦ e ])

-- a test whose negation fails holds
pub not-not : (a : Bool) → not a ≡ false → a ≡ true
not-not true h = refl
not-not false h = never h

-- tests that fail together are one
pub fail-together : (a b : Bool) → (a ≡ false → b ≡ false) → (b ≡ false → a ≡ false) → a ≡ b
fail-together true true f g = refl
fail-together true false f g = g refl
fail-together false b f g = sym (f refl)

-- how x stands to k, and what the tests say then
pub data Cmp (x k : ℕ) : Type 0 where
  lt : x < k → ltb x k ≡ true → Cmp x k
  eq : x ≡ k → ltb x k ≡ false → eqb x k ≡ true → Cmp x k
  gt : k < x → ltb x k ≡ false → eqb x k ≡ false → Cmp x k

-- one of the three holds
pub cmp : (x k : ℕ) → Cmp x k
cmp x k = elim (bool (ltb x k)) [
  | inl t ↦ lt (ltb-true x k t) t
  | inr t ↦ elim (bool (eqb x k)) [
    | inl u ↦ eq (eqb-true x k u) t u
    | inr u ↦
        let l : k ≤ x = ltb-false x k t in
        let n : x ≡ k → ⊥ = eqb-false x k u in
        gt (omega arith) t u
  ]
]
