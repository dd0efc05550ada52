-- The first wrong byte of any language: there is one at most, a word has none, and languages with the same words have
-- the same.
use Prim.Native.Nat.{ℕ, suc, ◌≤◌, ◌<◌}
use mathlib.Core.List.{List, ◌++◌, append_assoc}
use mathlib.Core.Logic.{◌↔◌}
use mathlib.Core.Path.{◌≡◌, subst}
use native.Mathlib.Decide.{ℕ_discrete}
use native.Mathlib.Omega.{arith}
use lib.ListN.{length, take, drop, take-append-drop}
use lib.Seq.{take-take}
use Rattle.grammar.specs.Languages.{Begins, FirstWrong}

module _ (L : List ℕ → Type 0) where
  -- where a word begins with some bytes one begins with fewer
  begins-fewer : (p q : List ℕ) → Begins L (p ++ q) → Begins L p
  begins-fewer p q b = record { more = q ++ b.more; word = subst L (append_assoc p q b.more) b.word }

  -- and so with fewer of an input
  begins-before : (s : List ℕ) (m n : ℕ) → m ≤ n → Begins L (take n s) → Begins L (take m s)
  begins-before s m n h b =
      rw (← take-take m n s h)
      (begins-fewer (take m (take n s)) (drop m (take n s)) (rw (take-append-drop m (take n s)) b))

  -- every word begins with its own first bytes
  word-begins : (s : List ℕ) (n : ℕ) → L s → Begins L (take n s)
  word-begins s n w = record { more = drop n s; word = rw (take-append-drop n s) w }

  -- no byte behind the first wrong one is the first wrong one
  wrong-not-before : (s : List ℕ) (a b : ℕ) → FirstWrong L s a → FirstWrong L s b → ¬ (a < b)
  wrong-not-before s a b f g h =
      f.stops (omega (arith, g.inside)) (begins-before s (suc a) b h g.begins)

  -- there is one first wrong byte at most
  pub wrong-only : (s : List ℕ) (a b : ℕ) → FirstWrong L s a → FirstWrong L s b → a ≡ b
  wrong-only s a b f g = omega (arith, wrong-not-before s a b f g, wrong-not-before s b a g f)

  -- a word has none
  pub word-not-wrong : (s : List ℕ) (at : ℕ) → L s → ¬ FirstWrong L s at
  word-not-wrong s at w f = elim (ℕ_discrete at (length s)) [
    | yes e ↦ f.unfinished e w
    | no e ↦ f.stops (omega (arith, f.inside)) (word-begins s (suc at) w)
  ]

-- languages with the same words have the same first wrong bytes
pub wrong-same : (L M : List ℕ → Type 0) → ((s : List ℕ) → L s ↔ M s) → (s : List ℕ) (at : ℕ) → FirstWrong L s at
    → FirstWrong M s at
wrong-same L M same s at f = record {
  inside = f.inside;
  begins = record { more = f.begins.more; word = (same _).0 f.begins.word };
  stops = λ l b. f.stops l (record { more = b.more; word = (same _).1 b.word });
  unfinished = λ e w. f.unfinished e ((same s).1 w);
}
