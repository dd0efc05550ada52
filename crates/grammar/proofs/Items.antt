-- The words of items that are to come: those of the first and then those of the others. So where every item can be
-- completed every state can.
use Prim.Native.Nat.{ℕ}
use mathlib.Core.List.{List, [], ◌∷◌, ◌++◌, append_assoc}
use mathlib.Core.Logic.{◌↔◌}
use mathlib.Core.Option.{Option, none, some, some-ne-none, none-ne-some, some-injective}
use mathlib.Core.Path.{◌≡◌, refl, sym, ap, ◌∙◌, subst}
use Rattle.grammar.specs.Languages.{JoinedWords}
use Rattle.grammar.specs.Machines.{later, Completes}
use Rattle.grammar.specs.Items.{before, step_items, nothing_left, judge_items}
use Rattle.grammar.proofs.Machines.{said-on, word_on}

-- items that come before others came instead of one
before-some : {I : Type 0} (rest : List I) (o : Option (List I)) (js : List I) → before rest o ≡ some js
    → (is : List I) × (o ≡ some is) × (is ++ rest ≡ js)
before-some rest none js e = absurd (none-ne-some js e)
before-some rest (some is) js e = (is, refl, some-injective (is ++ rest) js e)

module _ {I : Type 0} (after : I → ℕ → Option (List I)) where
  -- what is said after a byte that the first item takes
  said-after : (i : I) (rest is : List I) (b : ℕ) (s : List ℕ) → after i b ≡ some is
      → judge_items after (i ∷ rest) (b ∷ s) ≡ later (judge_items after (is ++ rest) s)
  said-after i rest is b s e =
      said-on (step_items after) nothing_left (i ∷ rest) (is ++ rest) b s (ap (before rest) e)

  -- an item takes the first byte of a word
  taken : (i : I) (rest : List I) (b : ℕ) (s : List ℕ) → judge_items after (i ∷ rest) (b ∷ s) ≡ none
      → (is : List I) × (after i b ≡ some is) × (judge_items after (is ++ rest) s ≡ none)
  taken i rest b s w =
      let r = word_on (step_items after) nothing_left (i ∷ rest) b s w in
      let t = before-some rest (after i b) r.0 r.1 in
      (t.0, t.1, rw t.2 r.2)

  -- a word of the first items and a word of the others are a word of all
  words-join : (u v : List ℕ) (is js : List I) → judge_items after is u ≡ none → judge_items after js v ≡ none
      → judge_items after (is ++ js) (u ++ v) ≡ none
  words-join [] v [] js a b = b
  words-join [] v (i ∷ is) js a b = absurd (some-ne-none 0 a)
  words-join (c ∷ u) v [] js a b = absurd (some-ne-none 0 a)
  words-join (c ∷ u) v (i ∷ is) js a b =
      let t = taken i is c u a in
      said-after i (is ++ js) t.0 c (u ++ v) t.1
      ∙ ap later (subst (λ ks. judge_items after ks (u ++ v) ≡ none) (append_assoc t.0 is js)
      (words-join u v (t.0 ++ is) js t.2 b))

  -- and every word of all is one of the first items and one of the others
  words-part : (w : List ℕ) (is js : List I) → judge_items after (is ++ js) w ≡ none
      → JoinedWords (λ u. judge_items after is u ≡ none) (λ v. judge_items after js v ≡ none) w
  words-part [] [] js a = record { front = []; back = []; is = refl; front_word = refl; back_word = a }
  words-part (c ∷ w) [] js a = record { front = []; back = c ∷ w; is = refl; front_word = refl; back_word = a }
  words-part [] (i ∷ is) js a = absurd (some-ne-none 0 a)
  words-part (c ∷ w) (i ∷ is) js a =
      let t = taken i (is ++ js) c w a in
      let p = words-part w (t.0 ++ is) js
      (subst (λ ks. judge_items after ks w ≡ none) (sym (append_assoc t.0 is js)) t.2) in
      record {
        front = c ∷ p.front;
        back = p.back;
        is = ap (λ l. c ∷ l) p.is;
        front_word = said-after i is t.0 c p.front t.1 ∙ ap later p.front_word;
        back_word = p.back_word;
      }

  -- the words of items are the words of the first items, each with one of the others behind
  pub words-joined : (is js : List I) (w : List ℕ) → (judge_items after (is ++ js) w ≡ none)
      ↔ JoinedWords (λ u. judge_items after is u ≡ none) (λ v. judge_items after js v ≡ none) w
  words-joined is js w = (
    words-part w is js,
    λ p. subst (λ l. judge_items after (is ++ js) l ≡ none) (sym p.is)
        (words-join p.front p.back is js p.front_word p.back_word),
  )

  -- where every item can be completed every state can
  pub items-complete : ((i : I) → Completes (step_items after) nothing_left (i ∷ [])) → (is : List I)
      → Completes (step_items after) nothing_left is
  items-complete each [] = record { more = []; accepted = refl }
  items-complete each (i ∷ is) =
      let a = each i in
      let b = items-complete each is in
      record {
        more = a.more ++ b.more;
        accepted = words-join a.more b.more (i ∷ []) is a.accepted b.accepted;
      }
