-- Languages of bytes. A language is given by what it is for a list of bytes to be a word of it; from that follows which
-- byte of an input is the first that cannot stand where it does.
use Rattle.std.specs.Prelude.{ℕ, suc, ◌≤◌, ◌<◌, List, ◌++◌, ◌≡◌, length, take}

-- some word begins with these bytes
pub record Begins (language : List ℕ → Type 0) (front : List ℕ) : Type 0 where
  pub more : List ℕ
  pub word : language (front ++ more)

-- place `at` has the first byte of the input that cannot stand there: a word begins with the bytes before it, and none
-- with these and that byte too. Or the input ends early, at `at`: a word begins with all of it, and it is no word
pub record FirstWrong (language : List ℕ → Type 0) (input : List ℕ) (at : ℕ) : Type 0 where
  pub inside : at ≤ length input
  pub begins : Begins language (take at input)
  pub stops : at < length input → ¬ Begins language (take (suc at) input)
  pub unfinished : at ≡ length input → ¬ language input

-- ---- languages made of others

-- the input begins with a word; what follows it may be anything
pub record Fronts (language : List ℕ → Type 0) (input : List ℕ) : Type 0 where
  pub size : ℕ
  pub within : size ≤ length input
  pub word : language (take size input)

-- some word has the bytes of the input before place `at`, and goes on
pub record GoesOn (language : List ℕ → Type 0) (input : List ℕ) (at : ℕ) : Type 0 where
  pub word : List ℕ
  pub is_word : language word
  pub longer : at < length word
  pub same : take at word ≡ take at input

-- the bytes are a word of the first language and then one of the second
pub record JoinedWords (first second : List ℕ → Type 0) (bytes : List ℕ) : Type 0 where
  pub front : List ℕ
  pub back : List ℕ
  pub is : bytes ≡ front ++ back
  pub front_word : first front
  pub back_word : second back
