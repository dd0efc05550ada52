-- A run: where it begins, and how many rounds it makes.
use Rattle.std.specs.Prelude.{ℕ, ◌+◌, Bool, cond, List, ltb, replicate}
use Rattle.number.specs.{fill, first_that}
use Rattle.shades.specs.{most_coordinates}
use Rattle.method.specs.Colouring.{Colours}
use Rattle.method.specs.Rounding.{State}
use Rattle.method.specs.Starting.{Base, starts_from, on_mean, over}

-- the most rounds of a run
abbrev pub most_rounds : ℕ
most_rounds = 200

-- a run from given shades begins with the starting shades, zeros past them, and with every colour in shade 0
abbrev pub begin_from : Base → Colours → ℕ → List ℕ → State
begin_from B C k members = record {
  coordinates = over (starts_from B C.n C.c k) (replicate most_coordinates 0);
  members = fill C.n (λ i. 0) members;
}

-- document 01's run begins from the table's mean
abbrev pub begin : Colours → ℕ → List ℕ → State
begin C k members = begin_from (on_mean C) C k members

-- the rounds made: up to the first that is quiet, and with it; where none below the limit is, as many as the limit
abbrev pub rounds_made : ℕ → (ℕ → Bool) → ℕ
rounds_made limit quiet = cond (ltb (first_that limit quiet) limit) (first_that limit quiet + 1) limit
