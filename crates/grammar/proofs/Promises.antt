-- What is shown of decimals, languages and machines, for whoever cites it. Each body names the proof.
use Prim.Native.Nat.{ℕ, suc, ◌+◌, ◌^◌, ◌≤◌, ◌<◌}
use mathlib.Core.Bool.{Bool, true, false}
use mathlib.Core.List.{List, [], ◌∷◌, ◌++◌}
use mathlib.Core.Logic.{◌↔◌}
use mathlib.Core.Option.{Option, none, some}
use mathlib.Core.Path.{◌≡◌}
use lib.ListN.{length, get_or, take}
use Rattle.grammar.specs.Bytes.{byte_at, digit_zero, is_digit}
use Rattle.grammar.specs.Spans.{span_at, AllOf}
use Rattle.grammar.specs.Decimals.{decimal, most_decimal, decimal_text}
use Rattle.grammar.specs.Languages.{Fronts, GoesOn, JoinedWords, FirstWrong}
use Rattle.grammar.specs.Machines.{judge, Accepts, Completes, front_step}
use Rattle.grammar.specs.Items.{step_items, nothing_left, judge_items}
use Rattle.grammar.proofs.Spans as spans
use Rattle.grammar.proofs.Texts as texts
use Rattle.grammar.proofs.Values as values
use Rattle.grammar.proofs.Wrongs as wrongs
use Rattle.grammar.proofs.Machines as machines
use Rattle.grammar.proofs.Items as items
use Rattle.grammar.proofs.Fronts as fronts
use Rattle.grammar.proofs.FrontWrongs as front-wrongs

-- ---- spans

-- Every byte of a span is of its kind.
pub span-all : (kind : ℕ → Bool) (most : ℕ) (input : List ℕ) (at : ℕ)
    → AllOf kind input at (span_at kind most input at)
span-all = spans.span-all

-- So many bytes of a kind, and then the bound or a byte of another kind, are the span.
pub span-only : (kind : ℕ → Bool) (most : ℕ) (input : List ℕ) (at n : ℕ) → n ≤ most → AllOf kind input at n
    → (n < most → kind (byte_at input (at + n)) ≡ false) → n ≡ span_at kind most input at
span-only = spans.span-only

-- ---- the text of a number

-- The text of a number, read as decimal digits, has that number as its value.
pub text-value : (n : ℕ) → n < 10 ^ most_decimal
    → decimal (length (decimal_text n)) (λ i. get_or (decimal_text n) i 0) ≡ n
text-value = values.text-value most_decimal

-- So numbers of one text are one number.
pub text-only : (a b : ℕ) → a < 10 ^ most_decimal → b < 10 ^ most_decimal → decimal_text a ≡ decimal_text b → a ≡ b
text-only = values.text-only most_decimal

-- Every byte of it is a decimal digit.
pub text-digits : (n : ℕ) → n < 10 ^ most_decimal
    → (i : ℕ) → i < length (decimal_text n) → is_digit (get_or (decimal_text n) i 0) ≡ true
text-digits = values.text-digits most_decimal

-- A text of more than one byte does not begin with the digit 0.
pub text-no-leading-zero : (n : ℕ) → n < 10 ^ most_decimal → 1 < length (decimal_text n)
    → get_or (decimal_text n) 0 0 ≡ digit_zero → ⊥
text-no-leading-zero = values.text-no-leading-zero most_decimal

-- The text of a number has at most 20 bytes.
pub decimal-length : (n : ℕ) → length (decimal_text n) ≤ most_decimal
decimal-length = texts.decimal-length

-- ---- any language

-- An input has at most one first wrong byte.
pub wrong-only : (language : List ℕ → Type 0) (input : List ℕ) (a b : ℕ) → FirstWrong language input a
    → FirstWrong language input b → a ≡ b
wrong-only = wrongs.wrong-only

-- A word has none.
pub word-not-wrong : (language : List ℕ → Type 0) (input : List ℕ) (at : ℕ) → language input
    → ¬ FirstWrong language input at
word-not-wrong = wrongs.word-not-wrong

-- Languages with the same words have the same first wrong bytes.
pub wrong-same : (L M : List ℕ → Type 0) → ((input : List ℕ) → L input ↔ M input) → (input : List ℕ) (at : ℕ)
    → FirstWrong L input at → FirstWrong M input at
wrong-same = wrongs.wrong-same

-- Where an input should begin with a word and does not, some word has all bytes before the first wrong one and goes on.
pub wrong-goes-on : (language : List ℕ → Type 0) (input : List ℕ) (at : ℕ) → FirstWrong (Fronts language) input at
    → GoesOn language input at
wrong-goes-on = front-wrongs.wrong-goes-on

-- And none has that byte too.
pub wrong-stops : (language : List ℕ → Type 0) (input : List ℕ) (at : ℕ) → FirstWrong (Fronts language) input at
    → at < length input → (word : List ℕ) → language word → at < length word
    → ¬ (take (suc at) word ≡ take (suc at) input)
wrong-stops = front-wrongs.wrong-stops

-- ---- machines

-- A machine that recognises a language, and every state of which can be completed to a word, dies at the first wrong
-- byte, or at the end of an input that ends early, and there alone.
pub wrong-exactly : {S : Type 0} (step : S → ℕ → Option S) (accepts : S → Bool)
    → ((state : S) → Completes step accepts state) → (language : List ℕ → Type 0) (state : S)
    → ((input : List ℕ) → Accepts step accepts state input ↔ language input) → (input : List ℕ) (at : ℕ)
    → (judge step accepts state input ≡ some at) ↔ FirstWrong language input at
wrong-exactly = machines.wrong-exactly

-- The machine that stops where it first accepts takes the inputs that begin with a word.
pub front-exactly : {S : Type 0} (step : S → ℕ → Option S) (accepts : S → Bool) (state : S) (input : List ℕ)
    → Accepts (front_step step accepts) accepts state input ↔ Fronts (Accepts step accepts state) input
front-exactly = fronts.front-exactly

-- It can be completed wherever the machine itself can.
pub front-completes : {S : Type 0} (step : S → ℕ → Option S) (accepts : S → Bool) (state : S)
    → Completes step accepts state → Completes (front_step step accepts) accepts state
front-completes = fronts.front-completes

-- ---- machines of items

-- The words of items are words of the first items, each with one of the others behind it.
pub words-joined : {I : Type 0} (after : I → ℕ → Option (List I)) (first others : List I) (bytes : List ℕ)
    → (judge_items after (first ++ others) bytes ≡ none)
    ↔ JoinedWords (λ u. judge_items after first u ≡ none) (λ v. judge_items after others v ≡ none) bytes
words-joined = items.words-joined

-- Where every item can be completed every state can.
pub items-complete : {I : Type 0} (after : I → ℕ → Option (List I))
    → ((item : I) → Completes (step_items after) nothing_left (item ∷ [])) → (state : List I)
    → Completes (step_items after) nothing_left state
items-complete = items.items-complete
