-- Laws of `how_many`: what one place more does to the count, and how large the count can be.
use mathlib.Core.Bool.{Bool, true, false, cond}
use mathlib.Core.Path.{◌≡◌, refl}
use mathlib.Core.Logic.{inl, inr, ⊎_elim}
use Prim.Native.Nat.{ℕ, zero, suc, ◌+◌, ◌≤◌, ◌<◌}
use native.Mathlib.Nat.{le-suc_iff, not-suc-le-zero, suc_inj}
use native.Mathlib.Numerals.{add-one}
use native.Mathlib.Omega.{arith}
use Rattle.number.specs.Count.{bit, how_many}
use Rattle.number.proofs.Cases.{bool}

-- one place more is counted where it passes the test
how_many-more : (n : ℕ) (b : ℕ → Bool) → how_many (n + 1) b ≡ cond (b n) (how_many n b + 1) (how_many n b)
unfolding how_many
how_many-more n b = rw (add-one n)

-- no more places pass than there are
pub how_many-at-most : (n : ℕ) (b : ℕ → Bool) → how_many n b ≤ n
unfolding how_many
how_many-at-most zero b = omega arith
how_many-at-most (suc n) b = go (b n) (how_many-at-most n b)
  where
    go : (t : Bool) → how_many n b ≤ n → cond t (how_many n b + 1) (how_many n b) ≤ suc n
    go true h = omega arith
    go false h = omega arith

-- a place more adds 1 where it passes the test, else 0
pub how_many-counted : (n x : ℕ) (b : ℕ → Bool) → x ≡ bit (b n) → how_many (n + 1) b ≡ how_many n b + x
how_many-counted n x b e = elim (bool (b n)) [
  | inl t ↦ rw (how_many-more n b, e, t)
  | inr t ↦ rw (how_many-more n b, e, t) (omega arith)
]

-- where no place is counted, each fails the test
pub how_many-none : (n : ℕ) (b : ℕ → Bool) → how_many n b ≡ 0 → (i : ℕ) → i < n → b i ≡ false
unfolding how_many
how_many-none zero b h i l = absurd (not-suc-le-zero l)
how_many-none (suc n) b h i l = elim (bool (b n)) [
  | inl t ↦ absurd (let z : how_many n b + 1 ≡ 0 = rw t at h in omega arith)
  | inr t ↦
      let z : how_many n b ≡ 0 = rw t at h in
      ⊎_elim (λ m. how_many-none n b z i m) (λ e. let q : i ≡ n = suc_inj e in rw q t) (le-suc_iff.0 l)
]

-- where each place fails the test, none is counted
pub none-how_many : (n : ℕ) (b : ℕ → Bool) → ((i : ℕ) → i < n → b i ≡ false) → how_many n b ≡ 0
unfolding how_many
none-how_many zero b h = refl
none-how_many (suc n) b h = rw (h n (omega arith)) (none-how_many n b (λ i l. h i (omega arith)))

-- tests that agree count alike
pub how_many-same : (n : ℕ) (b d : ℕ → Bool) → ((i : ℕ) → i < n → b i ≡ d i) → how_many n b ≡ how_many n d
unfolding how_many
how_many-same zero b d e = refl
how_many-same (suc n) b d e = rw (e n (omega arith), how_many-same n b d (λ i l. e i (omega arith)))
