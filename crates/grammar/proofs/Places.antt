-- A machine over the places of an input: what it says from a place on, by the byte that stands there. Then the same of
-- items at the front of an input, for a reader that goes by places.
use Prim.Native.Nat.{ℕ, suc, ◌+◌, ◌≤◌, ◌<◌}
use mathlib.Core.Bool.{Bool, false}
use mathlib.Core.List.{List, [], ◌∷◌, ◌++◌}
use mathlib.Core.Option.{Option, none, some}
use mathlib.Core.Path.{◌≡◌, refl, sym, ap, ◌∙◌}
use native.Mathlib.Decide.{dec_lt}
use native.Mathlib.Numerals.{add-one}
use native.Mathlib.Omega.{arith}
use lib.ListN.{length, drop, drop_of_length-le}
use lib.Seq.{drop-cons}
use Rattle.grammar.specs.Bytes.{byte_at}
use Rattle.grammar.specs.Machines.{later, judge, front_step, counted_from, wrong_from}
use Rattle.grammar.specs.Items.{before, step_items, nothing_left, judge_front}
use Rattle.grammar.proofs.Machines.{said-on, said-dead}
use Rattle.grammar.proofs.Fronts.{front-stopped}

-- ---- places

-- a place one byte later is one counted from one place later
counted-later : (a : ℕ) (o : Option ℕ) → counted_from a (later o) ≡ counted_from (suc a) o
counted-later a none = refl
counted-later a (some n) = let e : a + suc n ≡ suc a + n = omega arith in ap {B = Option ℕ} some e

-- a place counted from 0 on is itself
counted-zero : (o : Option ℕ) → counted_from 0 o ≡ o
counted-zero none = refl
counted-zero (some n) = let e : 0 + n ≡ n = omega arith in ap {B = Option ℕ} some e

-- the place that is counted from is 0 places behind itself
counted-here : (a : ℕ) → counted_from a (some 0) ≡ some a
counted-here a = let e : a + 0 ≡ a = omega arith in ap {B = Option ℕ} some e

-- ---- any machine

module _ {S : Type 0} (step : S → ℕ → Option S) (accepts : S → Bool) where
  -- from the first place on it is what the machine says
  from_first : (q : S) (s : List ℕ) → wrong_from step accepts q s 0 ≡ judge step accepts q s
  from_first q s = counted-zero (judge step accepts q s)

  -- a byte that leads to a state
  from_on : (q r : S) (s : List ℕ) (a : ℕ) → a < length s → step q (byte_at s a) ≡ some r
      → wrong_from step accepts q s a ≡ wrong_from step accepts r s (a + 1)
  from_on q r s a h e =
      ap (λ t. counted_from a (judge step accepts q t)) (drop-cons s a 0 h)
      ∙ ap (counted_from a) (said-on step accepts q r (byte_at s a) (drop (suc a) s) e)
      ∙ counted-later a (judge step accepts r (drop (suc a) s))
      ∙ ap (wrong_from step accepts r s) (sym (add-one a))

  -- a byte that leads to none
  from-dead : (q : S) (s : List ℕ) (a : ℕ) → a < length s → step q (byte_at s a) ≡ none
      → wrong_from step accepts q s a ≡ some a
  from-dead q s a h e =
      ap (λ t. counted_from a (judge step accepts q t)) (drop-cons s a 0 h)
      ∙ ap (counted_from a) (said-dead step accepts q (byte_at s a) (drop (suc a) s) e)
      ∙ counted-here a

  -- the end of an input that may not end there
  from_end : (q : S) (s : List ℕ) (a : ℕ) → length s ≤ a → accepts q ≡ false → wrong_from step accepts q s a ≡ some a
  from_end q s a h t =
      ap (λ l. counted_from a (judge step accepts q l)) (drop_of_length-le s {i = a} h) ∙ rw t (counted-here a)

-- ---- items at the front of an input

module _ {I : Type 0} (after : I → ℕ → Option (List I)) where
  -- the steps of the machine that looks at the front
  abbrev step : List I → ℕ → Option (List I)
  step = front_step (step_items after) nothing_left

  -- the wrong place of an input in which these items are to come from place a on
  abbrev pub wrong_front : List I → List ℕ → ℕ → Option ℕ
  wrong_front is s a = wrong_from (front_step (step_items after) nothing_left) nothing_left is s a

  -- from the first place on it is what the machine says
  pub front-first : (is : List I) (s : List ℕ) → wrong_front is s 0 ≡ judge_front after is s
  front-first is s = from_first step nothing_left is s

  -- where nothing is to come nothing is wrong
  pub front-nothing : (s : List ℕ) (a : ℕ) → wrong_front [] s a ≡ none
  front-nothing s a = ap (counted_from a) (front-stopped (step_items after) nothing_left (drop a s) [] refl)

  -- a byte that the first item takes
  pub front-taken : (i : I) (rest is : List I) (s : List ℕ) (a : ℕ) → a < length s → after i (byte_at s a) ≡ some is
      → wrong_front (i ∷ rest) s a ≡ wrong_front (is ++ rest) s (a + 1)
  front-taken i rest is s a h e = from_on step nothing_left (i ∷ rest) (is ++ rest) s a h (ap (before rest) e)

  -- the end, where something is to come
  pub front_ends : (i : I) (rest : List I) (s : List ℕ) (a : ℕ) → length s ≤ a → wrong_front (i ∷ rest) s a ≡ some a
  front_ends i rest s a h = from_end step nothing_left (i ∷ rest) s a h refl

  -- a byte that it does not take, or the end
  pub front-wrong : (i : I) (rest : List I) (s : List ℕ) (a : ℕ) → after i (byte_at s a) ≡ none
      → wrong_front (i ∷ rest) s a ≡ some a
  front-wrong i rest s a e = elim (dec_lt a (length s)) [
    | yes h ↦ from-dead step nothing_left (i ∷ rest) s a h (ap (before rest) e)
    | no h ↦ front_ends i rest s a (omega arith)
  ]

  -- two items that do the same with the byte at a place, or with the end
  pub front_same : (i j : I) (rest : List I) (s : List ℕ) (a : ℕ) → after i (byte_at s a) ≡ after j (byte_at s a)
      → wrong_front (i ∷ rest) s a ≡ wrong_front (j ∷ rest) s a
  front_same i j rest s a e = told (dec_lt a (length s)) (after j (byte_at s a)) refl
    where
      told : Dec (a < length s) → (o : Option (List I)) → after j (byte_at s a) ≡ o
          → wrong_front (i ∷ rest) s a ≡ wrong_front (j ∷ rest) s a
      told h none k = front-wrong i rest s a (e ∙ k) ∙ sym (front-wrong j rest s a k)
      told (yes h) (some is) k = front-taken i rest is s a h (e ∙ k) ∙ sym (front-taken j rest is s a h k)
      told (no h) (some is) k =
          front_ends i rest s a (omega arith) ∙ sym (front_ends j rest s a (omega arith))
