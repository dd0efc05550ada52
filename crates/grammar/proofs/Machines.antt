-- A machine whose states can all be completed says "none" of the words alone, and else the place of the first wrong
-- byte: by going through the input with the state.
use Prim.Native.Nat.{ℕ, suc, ◌<◌}
use mathlib.Core.Bool.{Bool, cond}
use mathlib.Core.List.{List, [], ◌∷◌, ◌++◌}
use mathlib.Core.Logic.{◌↔◌, inl, inr}
use mathlib.Core.Option.{Option, none, some, none-ne-some, some-ne-none, some-injective}
use mathlib.Core.Path.{◌≡◌, refl, sym, ap, ◌∙◌, subst}
use native.Mathlib.Omega.{arith}
use lib.ListN.{length, take}
use Rattle.number.proofs.Cases.{bool}
use Rattle.grammar.specs.Languages.{Begins, FirstWrong}
use Rattle.grammar.specs.Machines.{later, further, judge, Accepts, Completes}
use Rattle.grammar.proofs.Wrongs.{wrong-only, word-not-wrong, wrong-same}

-- ---- one byte

-- a place one byte later is none exactly where there is none
later-none : (o : Option ℕ) → later o ≡ none → o ≡ none
later-none none e = refl
later-none (some n) e = absurd (some-ne-none (suc n) e)

-- and else the next
later-some : (o : Option ℕ) (n : ℕ) → later o ≡ some n → (m : ℕ) × (o ≡ some m) × (suc m ≡ n)
later-some none n e = absurd (none-ne-some n e)
later-some (some m) n e = (m, refl, some-injective (suc m) n e)

module _ {S : Type 0} (step : S → ℕ → Option S) (accepts : S → Bool) where
  -- after a byte that leads to a state, what is said is what is said from there on, one byte later
  pub said-on : (q r : S) (b : ℕ) (s : List ℕ) → step q b ≡ some r
      → judge step accepts q (b ∷ s) ≡ later (judge step accepts r s)
  said-on q r b s e = ap (further (λ x. judge step accepts x s)) e

  -- a byte that leads to none is said to be wrong
  pub said-dead : (q : S) (b : ℕ) (s : List ℕ) → step q b ≡ none → judge step accepts q (b ∷ s) ≡ some 0
  said-dead q b s e = ap (further (λ x. judge step accepts x s)) e

  -- the first byte of a word leads to a state from which the rest is one
  pub word_on : (q : S) (b : ℕ) (s : List ℕ) → judge step accepts q (b ∷ s) ≡ none
      → (r : S) × (step q b ≡ some r) × (judge step accepts r s ≡ none)
  word_on q b s w = told (step q b) refl
    where
      told : (o : Option S) → step q b ≡ o → (r : S) × (step q b ≡ some r) × (judge step accepts r s ≡ none)
      told none e = absurd (some-ne-none 0 (sym (said-dead q b s e) ∙ w))
      told (some r) e = (r, e, later-none _ (sym (said-on q r b s e) ∙ w))

-- ---- the first wrong byte

module _ {S : Type 0} (step : S → ℕ → Option S) (accepts : S → Bool) (completes : (q : S) → Completes step accepts q)
  where
    -- the place 0 is wrong where no word has the first byte, or where the input is empty and no word
    wrong-at-once : (q : S) (s : List ℕ) → (0 < length s → ¬ Begins (Accepts step accepts q) (take 1 s))
        → (0 ≡ length s → ¬ Accepts step accepts q s) → FirstWrong (Accepts step accepts q) s 0
    wrong-at-once q s stops unfinished = record {
      inside = omega arith;
      begins = record { more = (completes q).more; word = (completes q).accepted };
      stops = stops;
      unfinished = unfinished;
    }

    -- a byte that leads to no state is wrong
    wrong_byte : (q : S) (b : ℕ) (s : List ℕ) → step q b ≡ none → FirstWrong (Accepts step accepts q) (b ∷ s) 0
    wrong_byte q b s e =
        wrong-at-once q (b ∷ s)
        (λ l w. some-ne-none 0 (sym (said-dead step accepts q b w.more e) ∙ w.word))
        (λ z. absurd (omega arith))

    -- a byte that is wrong from the next state on is wrong, one place later
    wrong-later : (q r : S) (b : ℕ) (s : List ℕ) (m : ℕ) → step q b ≡ some r
        → FirstWrong (Accepts step accepts r) s m → FirstWrong (Accepts step accepts q) (b ∷ s) (suc m)
    wrong-later q r b s m e f = record {
      inside = omega (arith, f.inside);
      begins = record {
        more = f.begins.more;
        word = said-on step accepts q r b (take m s ++ f.begins.more) e ∙ ap later f.begins.word;
      };
      stops = λ l w. f.stops (omega arith) (record {
        more = w.more;
        word = later-none _ (sym (said-on step accepts q r b (take (suc m) s ++ w.more) e) ∙ w.word);
      });
      unfinished = λ z w. f.unfinished (omega arith) (later-none _ (sym (said-on step accepts q r b s e) ∙ w));
    }

    -- by the state after the first byte
    wrong-further : (q : S) (b : ℕ) (s : List ℕ)
        → ((r : S) (m : ℕ) → judge step accepts r s ≡ some m → FirstWrong (Accepts step accepts r) s m)
        → (n : ℕ) (o : Option S) → step q b ≡ o → further (λ r. judge step accepts r s) o ≡ some n
        → FirstWrong (Accepts step accepts q) (b ∷ s) n
    wrong-further q b s from n none k e =
        subst (FirstWrong (Accepts step accepts q) (b ∷ s)) (some-injective 0 n e) (wrong_byte q b s k)
    wrong-further q b s from n (some r) k e =
        let t = later-some (judge step accepts r s) n e in
        subst (FirstWrong (Accepts step accepts q) (b ∷ s)) t.2 (wrong-later q r b s t.0 k (from r t.0 t.1))

    -- an input that ends where it may not is wrong there
    wrong-end : (q : S) (n : ℕ) → cond (accepts q) none (some 0) ≡ some n → FirstWrong (Accepts step accepts q) [] n
    wrong-end q n e = elim (bool (accepts q)) [
      | inl t ↦ absurd (none-ne-some n (rw t at e))
      | inr t ↦
          subst (FirstWrong (Accepts step accepts q) []) (some-injective 0 n (rw t at e))
          (wrong-at-once q [] (λ l. absurd (omega arith)) (λ z w. some-ne-none 0 (rw t at w)))
    ]

    -- what the machine says is the first wrong place
    judged-wrong : (s : List ℕ) (q : S) (n : ℕ) → judge step accepts q s ≡ some n
        → FirstWrong (Accepts step accepts q) s n
    judged-wrong [] q n e = wrong-end q n e
    judged-wrong (b ∷ s) q n e = wrong-further q b s (λ r m k. judged-wrong s r m k) n (step q b) refl e

    -- and it says so wherever there is one
    wrong-judged : (s : List ℕ) (q : S) (n : ℕ) → FirstWrong (Accepts step accepts q) s n
        → judge step accepts q s ≡ some n
    wrong-judged s q n f = told (judge step accepts q s) refl
      where
        told : (o : Option ℕ) → judge step accepts q s ≡ o → judge step accepts q s ≡ some n
        told none e = absurd (word-not-wrong (Accepts step accepts q) s n e f)
        told (some m) e =
            e ∙ ap {B = Option ℕ} some (wrong-only (Accepts step accepts q) s m n (judged-wrong s q m e) f)

    -- so of a language that it recognises it says exactly the first wrong place
    pub wrong-exactly : (L : List ℕ → Type 0) (q : S) → ((s : List ℕ) → Accepts step accepts q s ↔ L s)
        → (s : List ℕ) (n : ℕ) → (judge step accepts q s ≡ some n) ↔ FirstWrong L s n
    wrong-exactly L q recognises s n =
        let back : (t : List ℕ) → L t ↔ Accepts step accepts q t = λ t. ((recognises t).1, (recognises t).0) in (
          λ e. wrong-same (Accepts step accepts q) L recognises s n (judged-wrong s q n e),
          λ f. wrong-judged s q n (wrong-same L (Accepts step accepts q) back s n f),
        )
