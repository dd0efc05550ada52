-- What the calls on an input leave, on every input.
use Rattle.std.specs.Prelude.{ℕ, List, Result, Err}
use Rattle.refusal.specs.{Refusal, outcome_by}
use Rattle.listing_work.specs.{Work, work_picture}
use Rattle.listing.specs.Refusals.{count_in, picture_in, input_rows}

-- the refusal of its tests, or what is left of the picture behind the count line
unfoldable pub work_input : List ℕ → Result Work Refusal
work_input s = outcome_by (input_rows s) (work_picture (picture_in s) (count_in s)) Err
