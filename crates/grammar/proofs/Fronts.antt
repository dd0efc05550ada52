-- A machine that looks at the front of its input only: it stops where it first accepts, and what follows may be
-- anything. Its words are the inputs that begin with a word, and it can be completed wherever the other can.
use Prim.Native.Nat.{ℕ, zero, suc}
use mathlib.Core.Bool.{Bool, true, false}
use mathlib.Core.List.{List, [], ◌∷◌}
use mathlib.Core.Logic.{◌↔◌, inl, inr}
use mathlib.Core.Option.{Option, none, some, some-ne-none}
use mathlib.Core.Path.{◌≡◌, sym, ap, ◌∙◌}
use native.Mathlib.Omega.{arith}
use lib.ListN.{length, take}
use lib.Seq.{take-length, take-nil}
use Rattle.number.proofs.Cases.{bool}
use Rattle.grammar.specs.Languages.{Fronts}
use Rattle.grammar.specs.Machines.{later, judge, Accepts, Completes, front_step}
use Rattle.grammar.proofs.Machines.{said-on, word_on}

module _ {S : Type 0} (step : S → ℕ → Option S) (accepts : S → Bool) where
  -- what the front machine says
  abbrev front : S → List ℕ → Option ℕ
  front q s = judge (front_step step accepts) accepts q s

  -- where it accepts it stays
  stays : (q : S) (b : ℕ) → accepts q ≡ true → front_step step accepts q b ≡ some q
  stays q b t = rw t

  -- elsewhere it goes on as the other does
  goes : (q : S) (b : ℕ) → accepts q ≡ false → front_step step accepts q b ≡ step q b
  goes q b t = rw t

  -- so where it accepts it says nothing against what follows
  pub front-stopped : (s : List ℕ) (q : S) → accepts q ≡ true → front q s ≡ none
  front-stopped [] q t = rw t
  front-stopped (b ∷ s) q t =
      said-on (front_step step accepts) accepts q q b s (stays q b t) ∙ ap later (front-stopped s q t)

  -- an input that begins with a word is a word of the front machine
  front-takes : (s : List ℕ) (q : S) (n : ℕ) → judge step accepts q (take n s) ≡ none → front q s ≡ none
  front-takes [] q n w = rw (take-nil n) at w
  front-takes (b ∷ s) q zero w = elim (bool (accepts q)) [
    | inl t ↦ front-stopped (b ∷ s) q t
    | inr t ↦ absurd (some-ne-none 0 (rw t at w))
  ]
  front-takes (b ∷ s) q (suc n) w = elim (bool (accepts q)) [
    | inl t ↦ front-stopped (b ∷ s) q t
    | inr t ↦
        let r = word_on step accepts q b (take n s) w in
        said-on (front_step step accepts) accepts q r.0 b s (goes q b t ∙ r.1)
        ∙ ap later (front-takes s r.0 n r.2)
  ]

  -- and every word of the front machine begins with one
  front-begins : (s : List ℕ) (q : S) → front q s ≡ none → Fronts (Accepts step accepts q) s
  front-begins [] q w = record { size = 0; within = omega arith; word = w }
  front-begins (b ∷ s) q w = elim (bool (accepts q)) [
    | inl t ↦ record { size = 0; within = omega arith; word = rw t }
    | inr t ↦
        let r = word_on (front_step step accepts) accepts q b s w in
        let f = front-begins s r.0 r.2 in
        record {
          size = suc f.size;
          within = omega (arith, f.within);
          word = said-on step accepts q r.0 b (take f.size s) (sym (goes q b t) ∙ r.1) ∙ ap later f.word;
        }
  ]

  -- its words are the inputs that begin with a word
  pub front-exactly : (q : S) (s : List ℕ)
      → Accepts (front_step step accepts) accepts q s ↔ Fronts (Accepts step accepts q) s
  front-exactly q s = (front-begins s q, λ f. front-takes s q f.size f.word)

  -- it can be completed where the other can
  pub front-completes : (q : S) → Completes step accepts q → Completes (front_step step accepts) accepts q
  front-completes q c = record {
    more = c.more;
    accepted = front-takes c.more q (length c.more) (rw (take-length c.more) c.accepted);
  }
