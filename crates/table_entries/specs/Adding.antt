-- What pixels do to a table, one after the other, and which of them go in.
use Rattle.std.specs.Prelude.{
  ℕ,
  suc,
  ◌+◌,
  ◌≤◌,
  ◌<◌,
  Bool,
  true,
  false,
  cond,
  ◌&&◌,
  ◌||◌,
  List,
  [],
  ◌∷◌,
  ◌≡◌,
  length,
  get_or,
  take,
  ltb,
  leb,
  eqb,
}
use Rattle.colour.specs.{most_pixels}
use Rattle.table_entries.specs.Content.{Entry, entry, pixels_of, weight_of}

-- the most entries of a table
abbrev pub most_entries : ℕ
most_entries = 1048576

-- w pixels of colour k: they raise their colour's weight by w, or enter with weight w at their sorted place
abbrev pub give : ℕ → ℕ → List Entry → List Entry
give k w [] = entry k w ∷ []
give k w (e ∷ es) =
    cond (ltb e.key k) (e ∷ give k w es)
    (cond (eqb e.key k) (entry k (e.weight + w) ∷ es) (entry k w ∷ (e ∷ es)))

-- a pixel of colour k raises its colour's weight by one or enters with weight 1 at its sorted place
abbrev pub put : ℕ → List Entry → List Entry
put k es = give k 1 es

-- the pixels of a list, from first to last
abbrev pub put_all : List Entry → List ℕ → List Entry
put_all es [] = es
put_all es (k ∷ ks) = put_all (put k es) ks

-- a pixel of colour k does not go in: it meets a total of 16,777,216, or is a new colour with no room
abbrev pub stops : ℕ → List Entry → ℕ → Bool
stops room es k = leb most_pixels (pixels_of es) || (eqb (weight_of k es) 0 && leb room (length es))

-- how many pixels are taken, from the first, before one does not go in
abbrev pub taken_of : ℕ → List Entry → List ℕ → ℕ
taken_of room es [] = 0
taken_of room es (k ∷ ks) = cond (stops room es k) 0 (suc (taken_of room (put k es) ks))

-- the table with the pixels taken
abbrev pub with_taken : ℕ → List Entry → List ℕ → List Entry
with_taken room es ks = put_all es (take (taken_of room es ks) ks)

-- the first n pixels are the longest prefix that goes in, pixel by pixel: each of them goes into the table of those
-- before it, and the next one, if there is one, does not
pub record Prefix (room : ℕ) (es : List Entry) (ps : List ℕ) (n : ℕ) : Type 0 where
  pub within : n ≤ length ps
  pub goes : (i : ℕ) → i < n → stops room (put_all es (take i ps)) (get_or ps i 0) ≡ false
  pub ends : n < length ps → stops room (put_all es (take n ps)) (get_or ps n 0) ≡ true
