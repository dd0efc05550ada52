-- Laws of pixels added to a table: its length, its pixel total, the weight of each colour, the sum of a channel, and
-- that it stays sound.
-- Those of `give` hold for one pixel (`put`) as they stand, at w = 1.
use mathlib.Core.Path.{◌≡◌, refl, ap}
use mathlib.Core.Bool.{true, cond}
use mathlib.Core.Logic.{inl, inr}
use mathlib.Core.List.{List, [], ◌∷◌, ◌++◌}
use Prim.Native.Nat.{ℕ, zero, suc, ◌+◌, ◌*◌, ◌≤◌, ◌<◌}
use native.Mathlib.Omega.{arith}
use native.Mathlib.Nat.{zero-add}
use lib.ListN.{length, take}
use lib.Dec.{eqb}
use borrow.Author.Tests.{ne_eqb}
use Rattle.number.specs.{sum_of}
use Rattle.number.proofs.Cases.{cmp, lt, eq, gt, bool}
use Rattle.number.proofs.ListSums.{sum_of-ones, sum_of-eq}
use Rattle.colour.specs.{most_key}
use Rattle.table_entries.specs.Content.{Entry, entry, pixels_of, levels_of, weight_of, sound}
use Rattle.table_entries.specs.Strip.{count_of, Keys, none, more}
use Rattle.table_entries.specs.Adding.{give, put, put_all}
use Rattle.table_entries.proofs.Sounds.{Sound, sound-cons, cons-sound}

-- ---- w pixels of one colour

-- the table has as many entries, or one more
pub give-length : (k w : ℕ) (es : List Entry)
    → (length es ≤ length (give k w es)) × (length (give k w es) ≤ length es + 1)
give-length k w [] = omega arith
give-length k w (e ∷ es) = elim (cmp e.key k) [
  | lt l t ↦ simp t (omega (arith, give-length k w es))
  | eq q t u ↦ simp (t, u) (omega arith)
  | gt l t u ↦ simp (t, u) (omega arith)
]

-- g of an entry goes up with its weight
abbrev Additive : (Entry → ℕ) → Type 0
Additive g = (k w v : ℕ) → g (entry k (w + v)) ≡ g (entry k w) + g (entry k v)

-- g over the entries goes up by g of the pixels
pub give-sum : (g : Entry → ℕ) → Additive g → (k w : ℕ) (es : List Entry)
    → sum_of g (give k w es) ≡ sum_of g es + g (entry k w)
give-sum g add k w [] = omega arith
give-sum g add k w (e ∷ es) = elim (cmp e.key k) [
  | lt l t ↦ simp t (omega (arith, give-sum g add k w es))
  | eq q t u ↦ simp (t, u) (omega (arith, add k e.weight w, ap (λ (x : ℕ). g (entry x e.weight)) q))
  | gt l t u ↦ simp (t, u) (omega arith)
]

-- the weight of an entry goes up with it
weight-adds : Additive (λ (e : Entry). e.weight)
weight-adds k w v = refl

-- what it has of colour c too
colour-adds : (c : ℕ) → Additive (λ (e : Entry). cond (eqb e.key c) e.weight 0)
colour-adds c k w v = elim (bool (eqb k c)) [
  | inl t ↦ simp t
  | inr t ↦ simp t
]

-- and its weight times f of its key
levels-add : (f : ℕ → ℕ) → Additive (λ (e : Entry). e.weight * f e.key)
levels-add f k w v = omega arith

-- the pixel total goes up by w
pub give-pixels : (k w : ℕ) (es : List Entry) → pixels_of (give k w es) ≡ pixels_of es + w
give-pixels = give-sum (λ (e : Entry). e.weight) weight-adds

-- the weight of colour k goes up by w, every other weight stays
pub give-weight : (c k w : ℕ) (es : List Entry) → weight_of c (give k w es) ≡ weight_of c es + cond (eqb k c) w 0
give-weight c = give-sum (λ (e : Entry). cond (eqb e.key c) e.weight 0) (colour-adds c)

-- a sound table stays sound
pub give-sound : (k w low : ℕ) (es : List Entry) → low ≤ k → k ≤ most_key → 1 ≤ w → sound low es ≡ true
    → sound low (give k w es) ≡ true
give-sound k w low [] a b n h = cons-sound low (entry k w) [] (record { from = a; upto = b; some = n; rest = refl })
give-sound k w low (e ∷ es) a b n h = let s : Sound low e es = sound-cons low e es h in elim (cmp e.key k) [
  | lt l t ↦ simp t (cons-sound low e (give k w es) (record {
    from = s.from;
    upto = s.upto;
    some = s.some;
    rest = give-sound k w (e.key + 1) es (omega arith) b n s.rest;
  }))
  | eq q t u ↦ simp (t, u) (cons-sound low (entry k (e.weight + w)) es (record {
    from = a;
    upto = b;
    some = omega arith;
    rest = rw (← q) s.rest;
  }))
  | gt l t u ↦ simp (t, u) (cons-sound low (entry k w) (e ∷ es) (record {
    from = a;
    upto = b;
    some = n;
    rest = cons-sound (k + 1) e es (record { from = omega arith; upto = s.upto; some = s.some; rest = s.rest });
  }))
]

-- a colour below the first key allowed has no weight
pub weight-low : (c low : ℕ) (es : List Entry) → sound low es ≡ true → c < low → weight_of c es ≡ 0
weight-low c low [] h l = refl
weight-low c low (e ∷ es) h l =
    let s : Sound low e es = sound-cons low e es h in
    simp (ne_eqb e.key c (λ q. omega arith))
    (omega (arith, weight-low c (e.key + 1) es s.rest (omega arith)))

-- a sound table has one entry more exactly where the colour had no weight
pub give-length-is : (k w low : ℕ) (es : List Entry) → sound low es ≡ true
    → length (give k w es) ≡ length es + cond (eqb (weight_of k es) 0) 1 0
give-length-is k w low [] h = refl
give-length-is k w low (e ∷ es) h = let s : Sound low e es = sound-cons low e es h in elim (cmp e.key k) [
  | lt l t ↦
      simp (t, ne_eqb e.key k (λ q. omega arith), zero-add)
      (omega (arith, give-length-is k w (e.key + 1) es s.rest))
  | eq q t u ↦
      simp (t, u, ne_eqb (e.weight + weight_of k es) 0 (λ z. omega (arith, s.some))) (omega arith)
  | gt l t u ↦ simp (t, u, weight-low k (e.key + 1) es s.rest (omega arith)) (omega arith)
]

-- ---- the pixels of a list

-- keys stay keys in a prefix
pub keys-take : (n : ℕ) {ps : List ℕ} → Keys ps → Keys (take n ps)
keys-take zero k = none
keys-take (suc n) none = none
keys-take (suc n) (more l r) = more l (keys-take n r)

-- the table has at least as many entries
pub put_all-length : (es : List Entry) (ps : List ℕ) → length es ≤ length (put_all es ps)
put_all-length es [] = omega arith
put_all-length es (k ∷ ps) = omega (arith, give-length k 1 es, put_all-length (put k es) ps)

-- g over the entries goes up by g of each pixel
put_all-sum : (g : Entry → ℕ) → Additive g → (es : List Entry) (ps : List ℕ)
    → sum_of g (put_all es ps) ≡ sum_of g es + sum_of (λ (k : ℕ). g (entry k 1)) ps
put_all-sum g add es [] = omega arith
put_all-sum g add es (k ∷ ps) = omega (arith, put_all-sum g add (put k es) ps, give-sum g add k 1 es)

-- the pixel total goes up by the number of pixels
pub put_all-pixels : (es : List Entry) (ps : List ℕ) → pixels_of (put_all es ps) ≡ pixels_of es + length ps
put_all-pixels es ps = omega (arith, put_all-sum (λ (e : Entry). e.weight) weight-adds es ps, sum_of-ones ps)

-- the weight of each colour goes up by the number of its pixels
pub put_all-weight : (c : ℕ) (es : List Entry) (ps : List ℕ)
    → weight_of c (put_all es ps) ≡ weight_of c es + count_of c ps
put_all-weight c = put_all-sum (λ (e : Entry). cond (eqb e.key c) e.weight 0) (colour-adds c)

-- f of the keys, weights counted, goes up by f of each pixel: so a channel's sum goes up by the pixels' levels
pub put_all-levels : (f : ℕ → ℕ) (es : List Entry) (ps : List ℕ)
    → levels_of f (put_all es ps) ≡ levels_of f es + sum_of f ps
put_all-levels f es ps =
    omega (
      arith,
      put_all-sum (λ (e : Entry). e.weight * f e.key) (levels-add f) es ps,
      sum_of-eq (λ (k : ℕ). 1 * f k) f ps (λ k. omega arith),
    )

-- a sound table stays sound
pub put_all-sound : (es : List Entry) {ps : List ℕ} → Keys ps → sound 0 es ≡ true → sound 0 (put_all es ps) ≡ true
put_all-sound es none h = h
put_all-sound es (more {k = k} l r) h =
    put_all-sound (put k es) r (give-sound k 1 0 es (omega arith) l (omega arith) h)

-- two lists one after the other are the lists joined
pub put_all-append : (es : List Entry) (ps qs : List ℕ) → put_all es (ps ++ qs) ≡ put_all (put_all es ps) qs
put_all-append es [] qs = refl
put_all-append es (k ∷ ps) qs = put_all-append (put k es) ps qs
