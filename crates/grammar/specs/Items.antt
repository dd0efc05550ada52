-- A machine of items: a state is the list of items that are to come. A byte is for the first of them, and `after` says
-- what comes instead of it, or none where the byte cannot stand. The input may end where nothing is to come.
use Rattle.std.specs.Prelude.{ℕ, Bool, true, false, List, [], ◌∷◌, ◌++◌}
use Rattle.std.proofs.Math.Option.{Option, none, some}
use Rattle.grammar.specs.Machines.{judge, front_step}

-- the items that come instead of one, before the others
abbrev pub before : {I : Type 0} → List I → Option (List I) → Option (List I)
before rest none = none
before rest (some items) = some (items ++ rest)

-- the items to come after a byte; where nothing is to come no byte can stand
abbrev pub step_items : {I : Type 0} → (I → ℕ → Option (List I)) → List I → ℕ → Option (List I)
step_items after [] byte = none
step_items after (item ∷ rest) byte = before rest (after item byte)

-- nothing is to come
abbrev pub nothing_left : {I : Type 0} → List I → Bool
nothing_left [] = true
nothing_left (item ∷ rest) = false

-- what is said of an input that should be of these items
abbrev pub judge_items : {I : Type 0} → (I → ℕ → Option (List I)) → List I → List ℕ → Option ℕ
judge_items after items input = judge (step_items after) nothing_left items input

-- and of one that should begin with them
abbrev pub judge_front : {I : Type 0} → (I → ℕ → Option (List I)) → List I → List ℕ → Option ℕ
judge_front after items input = judge (front_step (step_items after) nothing_left) nothing_left items input
