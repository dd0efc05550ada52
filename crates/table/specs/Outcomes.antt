-- What adding a strip leaves: the answer, and both slices, on every input.
use Rattle.std.specs.Prelude.{ℕ, ◌≡◌, Bool, true, false, cond, List, Option, Some, None}
use Rattle.refusal.specs.{Refusal, BadStrip, BadTable, outcome_by}
use Rattle.table_entries.specs.{Entry, entries, keys_into, weights_into, strip_keys, taken_of, with_taken}
use Rattle.table_test.specs.{Record, room_of, record_of}
use Rattle.table.specs.Refusals.{add_rows}
use Rattle.table.specs.declared.Added.{Added}

-- the answer, and the two lent slices at exit
pub record Outcome : Type 0 where
  pub answer : Added
  pub keys : List ℕ
  pub weights : List ℕ

-- the answer with this refusal or none, where nothing is taken and the record is handed back as it came in
abbrev pub refused : Option Refusal → Record → Added
refused n rec = record { refusal = n; taken = 0; rec = rec }

-- that answer, and no slice changes
abbrev pub as_it_came : Option Refusal → Record → List ℕ → List ℕ → Outcome
as_it_came n rec ks ws = record { answer = refused n rec; keys = ks; weights = ws }

-- the pixels of a list taken from first to last, as far as they go in: record and table are those of the pixels taken,
-- and places past the used entries keep their values
abbrev pub with_pixels : Option Refusal → ℕ → List Entry → List ℕ → List ℕ → List ℕ → Outcome
with_pixels n room es ps ks ws = record {
  answer = record { refusal = n; taken = taken_of room es ps; rec = record_of (with_taken room es ps) };
  keys = keys_into (with_taken room es ps) ks;
  weights = weights_into (with_taken room es ps) ws;
}

-- the refusals before the first pixel: FULL is not one
abbrev pub hands_back : Refusal → Bool
hands_back BadStrip = true
hands_back BadTable = true
hands_back _ = false

-- the pixels of a strip taken, with this refusal or none in the answer
abbrev pub taken_into : Record → List ℕ → List ℕ → List ℕ → Option Refusal → Outcome
taken_into rec ks ws s n = with_pixels n (room_of ks ws) (entries rec.used ks ws) (strip_keys s) ks ws

-- what a refusal leaves: all as it came, but FULL the pixels taken
abbrev pub left_by_add : Record → List ℕ → List ℕ → List ℕ → Refusal → Outcome
left_by_add rec ks ws s n = cond (hands_back n) (as_it_came (Some n) rec ks ws) (taken_into rec ks ws s (Some n))

-- the whole outcome of a call
unfoldable pub add_strip : Record → List ℕ → List ℕ → List ℕ → Outcome
add_strip rec ks ws s = outcome_by (add_rows rec ks ws s) (taken_into rec ks ws s None) (left_by_add rec ks ws s)

-- the table that an outcome's slices hold, by its record
abbrev pub table_after : Outcome → List Entry
table_after o = entries o.answer.rec.used o.keys o.weights

-- the contract: the answer and both slices are those of the outcome
pub record AddMeets (rec : Record) (ks ws s : List ℕ) (r : Added) (ks' ws' : List ℕ) : Type 0 where
  pub answer : r ≡ (add_strip rec ks ws s).answer
  pub keys : ks' ≡ (add_strip rec ks ws s).keys
  pub weights : ws' ≡ (add_strip rec ks ws s).weights
