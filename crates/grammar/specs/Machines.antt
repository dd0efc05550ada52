-- A machine that reads byte by byte: `step` leads from a state and a byte to a state, or to none where the byte cannot
-- stand; `accepts` says in which states the input may end.
use Rattle.std.specs.Prelude.{ℕ, suc, ◌+◌, Bool, cond, List, [], ◌∷◌, ◌≡◌, drop}
use Rattle.std.proofs.Math.Option.{Option, none, some}

-- ---- what a machine says of an input

-- a wrong place one byte later; none stays none
abbrev pub later : Option ℕ → Option ℕ
later none = none
later (some place) = some (suc place)

-- what is said of an input, from the state after its first byte and what is said from there on
abbrev pub further : {S : Type 0} → (S → Option ℕ) → Option S → Option ℕ
further say none = some 0
further say (some state) = later (say state)

-- what is said of an input from a state on: none where it is a word, else the place of the first wrong byte, or the
-- input's length where it ends early
abbrev pub judge : {S : Type 0} → (S → ℕ → Option S) → (S → Bool) → S → List ℕ → Option ℕ
judge step accepts state [] = cond (accepts state) none (some 0)
judge step accepts state (byte ∷ rest) = further (λ next. judge step accepts next rest) (step state byte)

-- the language of the machine from a state on
abbrev pub Accepts : {S : Type 0} → (S → ℕ → Option S) → (S → Bool) → S → List ℕ → Type 0
Accepts step accepts state input = judge step accepts state input ≡ none

-- some bytes lead from a state on to an accepting one
pub record Completes {S : Type 0} (step : S → ℕ → Option S) (accepts : S → Bool) (state : S) : Type 0 where
  pub more : List ℕ
  pub accepted : judge step accepts state more ≡ none

-- the steps of a machine that looks at the front of its input: where it accepts it has stopped
abbrev pub front_step : {S : Type 0} → (S → ℕ → Option S) → (S → Bool) → S → ℕ → Option S
front_step step accepts state byte = cond (accepts state) (some state) (step state byte)

-- ---- the same over the places of an input

-- a place counted from another; none stays none
abbrev pub counted_from : ℕ → Option ℕ → Option ℕ
counted_from from none = none
counted_from from (some place) = some (from + place)

-- the wrong place of an input where the machine is in a state at a place
abbrev pub wrong_from : {S : Type 0} → (S → ℕ → Option S) → (S → Bool) → S → List ℕ → ℕ → Option ℕ
wrong_from step accepts state input at = counted_from at (judge step accepts state (drop at input))
