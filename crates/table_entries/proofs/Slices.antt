-- Laws of a table as it lies in two slices: what is read from them, and what is laid into their fronts.
use mathlib.Core.Path.{◌≡◌, refl, sym, ap, ◌∙◌}
use mathlib.Core.Bool.{true}
use mathlib.Core.List.{List, [], ◌∷◌, ◌++◌, map}
use Prim.Native.Nat.{ℕ, zero, suc, ◌+◌, ◌-◌, ◌≤◌, ◌<◌}
use native.Mathlib.Omega.{arith}
use native.Mathlib.Nat.{le_of_suc-le-suc, not-suc-le-zero}
use lib.ListN.{length, get_or, take, drop, length-append, length-drop, length-map, take-append-drop}
use lib.Seq.{get_or-take, drop-drop, drop_at}
use Rattle.number.proofs.Cases.{cmp, lt, eq, gt}
use Rattle.colour.specs.{most_key}
use Rattle.table_entries.specs.Content.{Entry, keys_of, weights_of, entries, keys_into, weights_into, sound}
use Rattle.table_entries.proofs.Sounds.{sound-rises, sound-keys}

-- ---- reading

-- n entries are read where both slices have n places
pub entries-length : (n : ℕ) (ks ws : List ℕ) → n ≤ length ks → n ≤ length ws → length (entries n ks ws) ≡ n
entries-length zero ks ws a b = refl
entries-length (suc n) [] ws a b = absurd (not-suc-le-zero a)
entries-length (suc n) (k ∷ ks) [] a b = absurd (not-suc-le-zero b)
entries-length (suc n) (k ∷ ks) (w ∷ ws) a b =
    ap suc (entries-length n ks ws (le_of_suc-le-suc a) (le_of_suc-le-suc b))

-- their keys are the first n keys
pub entries-keys : (n : ℕ) (ks ws : List ℕ) → n ≤ length ks → n ≤ length ws → keys_of (entries n ks ws) ≡ take n ks
entries-keys zero ks ws a b = refl
entries-keys (suc n) [] ws a b = refl
entries-keys (suc n) (k ∷ ks) [] a b = absurd (not-suc-le-zero b)
entries-keys (suc n) (k ∷ ks) (w ∷ ws) a b =
    ap (λ (r : List ℕ). k ∷ r) (entries-keys n ks ws (le_of_suc-le-suc a) (le_of_suc-le-suc b))

-- their weights are the first n weights
pub entries-weights : (n : ℕ) (ks ws : List ℕ) → n ≤ length ks → n ≤ length ws
    → weights_of (entries n ks ws) ≡ take n ws
entries-weights zero ks ws a b = refl
entries-weights (suc n) [] ws a b = absurd (not-suc-le-zero a)
entries-weights (suc n) (k ∷ ks) [] a b = refl
entries-weights (suc n) (k ∷ ks) (w ∷ ws) a b =
    ap (λ (r : List ℕ). w ∷ r) (entries-weights n ks ws (le_of_suc-le-suc a) (le_of_suc-le-suc b))

-- ---- the keys of a sound table, as they lie

module _ (n : ℕ) (ks ws : List ℕ) (a : n ≤ length ks) (b : n ≤ length ws) (h : sound 0 (entries n ks ws) ≡ true) where
  -- a key is above every key before it
  pub keys-rise : (p q : ℕ) → p < q → q < n → get_or ks p 0 < get_or ks q 0
  keys-rise p q x y =
      rw (entries-keys n ks ws a b, get_or-take n ks p 0 (omega arith), get_or-take n ks q 0 y)
      at (sound-rises 0 (entries n ks ws) h p q x (omega (arith, entries-length n ks ws a b)))

  -- no key is below one before it
  pub keys-in-order : (p q : ℕ) → p ≤ q → q < n → get_or ks p 0 ≤ get_or ks q 0
  keys-in-order p q x y = elim (cmp p q) [
    | lt l t ↦ omega (arith, keys-rise p q l y)
    | eq e t u ↦ rw e (omega arith)
    | gt l t u ↦ absurd (omega arith)
  ]

  -- each is a key
  pub keys-are-keys : (p : ℕ) → p < n → get_or ks p 0 ≤ most_key
  keys-are-keys p l =
      rw (entries-keys n ks ws a b, get_or-take n ks p 0 l) at (sound-keys 0 (entries n ks ws) h p)

-- ---- laying a table into the fronts of two slices

-- what was laid is read back
pub entries-laid : (es : List Entry) (a b : List ℕ) → entries (length es) (keys_of es ++ a) (weights_of es ++ b) ≡ es
entries-laid [] a b = refl
entries-laid (e ∷ es) a b = ap (λ (r : List Entry). e ∷ r) (entries-laid es a b)

-- either column f of a table laid into a slice leaves the slice's length
pub laid-length : (f : Entry → ℕ) (es : List Entry) (cs : List ℕ) → length es ≤ length cs
    → length (map f es ++ drop (length es) cs) ≡ length cs
laid-length f es cs h = simp (length-append, length-drop, length-map) (omega arith)

-- and what stands past the table
pub laid_kept : (f : Entry → ℕ) (es : List Entry) (cs : List ℕ)
    → drop (length es) (map f es ++ drop (length es) cs) ≡ drop (length es) cs
laid_kept f es cs = drop_at (map f es) (drop (length es) cs) (length es) (length-map es f)

-- a column of a table read from one slice and laid into another that agrees with it past the table is the first slice
column-laid : (f : Entry → ℕ) (n : ℕ) (es : List Entry) (cs cs₀ : List ℕ) → length es ≡ n → map f es ≡ take n cs
    → drop n cs ≡ drop n cs₀ → map f es ++ drop (length es) cs₀ ≡ cs
column-laid f n es cs cs₀ l e d = rw (l, e, ← d) (take-append-drop n cs)

module _ (n : ℕ) (ks ws : List ℕ) (a : n ≤ length ks) (b : n ≤ length ws) where
  -- so for the keys of the table in two slices
  pub keys-laid : (ks₀ : List ℕ) → drop n ks ≡ drop n ks₀ → keys_into (entries n ks ws) ks₀ ≡ ks
  keys-laid ks₀ =
      column-laid (λ (e : Entry). e.key) n (entries n ks ws) ks ks₀ (entries-length n ks ws a b)
      (entries-keys n ks ws a b)

  -- and for its weights
  pub weights-laid : (ws₀ : List ℕ) → drop n ws ≡ drop n ws₀ → weights_into (entries n ks ws) ws₀ ≡ ws
  weights-laid ws₀ =
      column-laid (λ (e : Entry). e.weight) n (entries n ks ws) ws ws₀ (entries-length n ks ws a b)
      (entries-weights n ks ws a b)

-- slices that agree from place u on agree from any later place on
pub drop-later : (u m : ℕ) (a b : List ℕ) → u ≤ m → drop u a ≡ drop u b → drop m a ≡ drop m b
drop-later u m a b h e =
    let z : m ≡ u + (m - u) = omega arith in
    rw z (sym (drop-drop (m - u) u a) ∙ ap (drop (m - u)) e ∙ drop-drop (m - u) u b)
