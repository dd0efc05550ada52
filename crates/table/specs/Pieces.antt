-- A sheet added in strips, one call after the other: each adds to what the one before left.
use Rattle.std.specs.Prelude.{ℕ, ◌+◌, List, [], ◌∷◌, ◌≡◌, None}
use Rattle.table_test.specs.{Record}
use Rattle.table.specs.Outcomes.{Outcome, add_strip}

-- what the calls leave: the pixels taken in all, the record and both slices
pub record AddedAll : Type 0 where
  pub taken : ℕ
  pub rec : Record
  pub keys : List ℕ
  pub weights : List ℕ

-- what one call leaves
abbrev pub added_by : Outcome → AddedAll
added_by o = record { taken = o.answer.taken; rec = o.answer.rec; keys = o.keys; weights = o.weights }

-- the calls, from the first strip to the last; no call leaves all as it came
abbrev pub add_strips : Record → List ℕ → List ℕ → List (List ℕ) → AddedAll
add_strips rec ks ws [] = record { taken = 0; rec = rec; keys = ks; weights = ws }
add_strips rec ks ws (s ∷ ss) =
    let o = add_strip rec ks ws s in
    let rest = add_strips o.answer.rec o.keys o.weights ss in
    record {
      taken = o.answer.taken + rest.taken;
      rec = rest.rec;
      keys = rest.keys;
      weights = rest.weights;
    }

-- every one of them is accepted
abbrev pub EachAdded : Record → List ℕ → List ℕ → List (List ℕ) → Type 0
EachAdded rec ks ws [] = Unit {0}
EachAdded rec ks ws (s ∷ ss) =
    let o = add_strip rec ks ws s in
    (o.answer.refusal ≡ None) × EachAdded o.answer.rec o.keys o.weights ss
