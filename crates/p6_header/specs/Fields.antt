-- A field of a header: white bytes and comments, and a number after them.
use Rattle.std.specs.Prelude.{ℕ, cond, List, [], ◌∷◌, ◌≡◌, eqb, Ok, Err}
use Rattle.refusal.specs.{number_of, done, BadHeader}
use Rattle.grammar.specs.{number_at, Reading}
use Rattle.p6_gap.specs.{gap_end}

-- what is read from `at` on where a number may begin at `start`: that number; with nothing between the two it fails at
-- `at`
abbrev pub number_behind : List ℕ → ℕ → ℕ → Reading
number_behind input at start = cond (eqb start at) (Err at) (number_at input start)

-- one or more white bytes and comments from `at` on, and the number after them; with none of them there it fails at
-- `at`
unfoldable pub field_at : List ℕ → ℕ → Reading
field_at input at = number_behind input at (gap_end input at)

-- ---- what a reading says, case by case

-- its number in document 01: a reading that failed is BAD HEADER
abbrev pub reading_number : Reading → ℕ
reading_number (Ok number) = done
reading_number (Err at) = number_of BadHeader

-- its values: the number and where it ended, or the place it failed
abbrev pub reading_values : Reading → List ℕ
reading_values (Ok number) = number.value ∷ number.next ∷ []
reading_values (Err at) = at ∷ []

-- it says this number and these values
abbrev pub ReadingSays : Reading → ℕ → List ℕ → Type 0
ReadingSays reading number values = (reading_number reading ≡ number) × (reading_values reading ≡ values)
