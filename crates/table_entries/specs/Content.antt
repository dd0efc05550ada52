-- The table as a list of entries, and how it lies in two slices: the keys of its entries at the front of one, their
-- weights at the front of the other. What stands past them is no part of the table.
use Rattle.std.specs.Prelude.{
  ℕ,
  zero,
  suc,
  ◌+◌,
  ◌*◌,
  Bool,
  true,
  false,
  cond,
  List,
  [],
  ◌∷◌,
  ◌++◌,
  map,
  length,
  drop,
  ltb,
  eqb,
}
use Rattle.number.specs.{sum_of}
use Rattle.colour.specs.{most_key}

-- a colour of the table, by its key, and its weight: the pixels of that colour
pub record Entry : Type 0 where
  pub key : ℕ
  pub weight : ℕ

-- the entry with this key and this weight
abbrev pub entry : ℕ → ℕ → Entry
entry k w = record { key = k; weight = w }

-- the keys of a table, from first to last
abbrev pub keys_of : List Entry → List ℕ
keys_of = map (λ (e : Entry). e.key)

-- and their weights
abbrev pub weights_of : List Entry → List ℕ
weights_of = map (λ (e : Entry). e.weight)

-- the table in two slices: the first n keys with the first n weights
abbrev pub entries : ℕ → List ℕ → List ℕ → List Entry
entries zero ks ws = []
entries (suc n) [] ws = []
entries (suc n) (k ∷ ks) [] = []
entries (suc n) (k ∷ ks) (w ∷ ws) = entry k w ∷ entries n ks ws

-- a table's keys laid into the front of a slice; places past the used entries keep their values
abbrev pub keys_into : List Entry → List ℕ → List ℕ
keys_into es ks = keys_of es ++ drop (length es) ks

-- and its weights
abbrev pub weights_into : List Entry → List ℕ → List ℕ
weights_into es ws = weights_of es ++ drop (length es) ws

-- the pixel total: the sum of the weights
abbrev pub pixels_of : List Entry → ℕ
pixels_of = sum_of (λ (e : Entry). e.weight)

-- f of the keys added up, weights counted: with f the level of a channel, the channel's sum in whole levels
abbrev pub levels_of : (ℕ → ℕ) → List Entry → ℕ
levels_of f = sum_of (λ (e : Entry). e.weight * f e.key)

-- the weight of colour c: the weights of the entries with its key, 0 where there is none
abbrev pub weight_of : ℕ → List Entry → ℕ
weight_of c = sum_of (λ (e : Entry). cond (eqb e.key c) e.weight 0)

-- each key is above the one before (the first at least `low`) and at most 16,777,215, and each weight at least 1
abbrev pub sound : ℕ → List Entry → Bool
sound low [] = true
sound low (e ∷ es) =
    cond (ltb e.key low) false
    (cond (ltb most_key e.key) false (cond (ltb e.weight 1) false (sound (e.key + 1) es)))
