-- A picture mapped in strips, one call after the other: each stretch begins where the one before ended.
use Rattle.std.specs.Prelude.{ℕ, ◌+◌, List, [], ◌∷◌, None, ◌≡◌}
use Rattle.map_errors.specs.{Errors, plus_errors}
use Rattle.map_blocks.specs.{pixel_count}
use Rattle.mapping.specs.Outcomes.{MapOutcome, refusal_in, mapped_in, map_strip}

-- what the calls leave: the index picture, and the errors added up
pub record Pieced : Type 0 where
  pub index : List ℕ
  pub error : ℕ
  pub errors : Errors

-- what one call leaves
abbrev pub left_by : MapOutcome → Pieced
left_by o = record { index = o.index; error = (mapped_in o.answer).error; errors = (mapped_in o.answer).errors }

-- the calls, from the first strip to the last
abbrev pub in_strips : List (List ℕ) → List ℕ → List ℕ → ℕ → Pieced
in_strips [] palette index first = record {
  index = index;
  error = 0;
  errors = record { red = 0; green = 0; blue = 0 };
}
in_strips (s ∷ ss) palette index first =
    let o = map_strip s palette index first in
    let rest = in_strips ss palette o.index (first + pixel_count s) in
    record {
      index = rest.index;
      error = (mapped_in o.answer).error + rest.error;
      errors = plus_errors (mapped_in o.answer).errors rest.errors;
    }

-- every one of them is accepted
abbrev pub EachAccepted : List (List ℕ) → List ℕ → List ℕ → ℕ → Type 0
EachAccepted [] palette index first = Unit {0}
EachAccepted (s ∷ ss) palette index first =
    let o = map_strip s palette index first in
    (refusal_in o.answer ≡ None) × EachAccepted ss palette o.index (first + pixel_count s)
