-- The starting shades: a list over the front of another, and the starts one by one.
use Prim.Native.Nat.{ℕ, zero, suc, ◌+◌, ◌*◌, ◌≤◌, ◌<◌}
use mathlib.Core.Bool.{Bool, true, false, cond}
use mathlib.Core.List.{List, [], ◌∷◌, ◌++◌, append_assoc}
use mathlib.Core.Logic.{⊎_elim}
use mathlib.Core.Path.{◌≡◌, refl, sym, ap, ◌∙◌}
use native.Mathlib.Numerals.{add-one}
use native.Mathlib.Omega.{arith}
use lib.Dec.{ltb}
use lib.ListN.{length, get_or, set, length-append, get_or-append}
use lib.Seq.{get_or-append-add}
use borrow.Author.Tests.{lt-ltb, le-ltb}
use Rattle.number.specs.{most}
use Rattle.number.proofs.Searches.{below-or-last}
use Rattle.colour.specs.{Point, Within, most_coordinate}
use Rattle.shades.specs.{shade_at, put_shade, OnGrid}
use Rattle.shades.proofs.Laying.{shade-within}
use Rattle.method.specs.Starting.{Base, remote, flat, listed, next_shade, starts_from, over}

-- ---- a list over the front of another

-- as many places as before
pub over-length : (l d : List ℕ) → length (over l d) ≡ length d
unfolding over
over-length [] d = refl
over-length (x ∷ l) [] = refl
over-length (x ∷ l) (y ∷ d) = ap suc (over-length l d)

-- a place under the front list holds what that holds
pub over-at : (l d : List ℕ) (i : ℕ) → i < length l → i < length d → get_or (over l d) i 0 ≡ get_or l i 0
unfolding over
over-at [] d i h g = absurd (omega arith)
over-at (x ∷ l) [] i h g = absurd (omega arith)
over-at (x ∷ l) (y ∷ d) zero h g = refl
over-at (x ∷ l) (y ∷ d) (suc i) h g = over-at l d i (omega arith) (omega arith)

-- a place past it keeps its value
pub over-kept : (l d : List ℕ) (i : ℕ) → length l ≤ i → get_or (over l d) i 0 ≡ get_or d i 0
unfolding over
over-kept [] d i h = refl
over-kept (x ∷ l) [] i h = refl
over-kept (x ∷ l) (y ∷ d) zero h = absurd (omega arith)
over-kept (x ∷ l) (y ∷ d) (suc i) h = over-kept l d i (omega arith)

-- coordinates on the grid over coordinates on the grid
pub over-low : (l d : List ℕ) → OnGrid l → OnGrid d → OnGrid (over l d)
unfolding over
over-low [] d h g i = g i
over-low (x ∷ l) [] h g i = g i
over-low (x ∷ l) (y ∷ d) h g zero = h zero
over-low (x ∷ l) (y ∷ d) h g (suc i) = over-low l d (λ j. h (suc j)) (λ j. g (suc j)) i

-- a store at the first place past the front list makes that list one longer
over-set : (l d : List ℕ) (x : ℕ) → length l < length d → set (over l d) (length l) x ≡ over (l ++ (x ∷ [])) d
unfolding over
over-set [] [] x h = absurd (omega arith)
over-set [] (y ∷ d) x h = refl
over-set (z ∷ l) [] x h = absurd (omega arith)
over-set (z ∷ l) (y ∷ d) x h = ap {B = List ℕ} (λ t. z ∷ t) (over-set l d x (omega arith))

-- the same, the place given by its number
over-set-at : (l d : List ℕ) (n x : ℕ) → length l ≡ n → n < length d → set (over l d) n x ≡ over (l ++ (x ∷ [])) d
over-set-at l d n x e h = rw (← e) (over-set l d x (omega arith))

-- a shade stored after the k shades of the front list makes that list one shade longer
over-put : (l d : List ℕ) (k : ℕ) (p : Point) → length l ≡ 3 * k → 3 * k + 2 < length d
    → put_shade (over l d) k p ≡ over (l ++ flat p) d
over-put l d k p e h =
    let l₁ = l ++ (p.r ∷ []) in
    let l₂ = l₁ ++ (p.g ∷ []) in
    rw (over-set-at l d (3 * k) p.r e (omega arith))
    (rw (over-set-at l₁ d (3 * k + 1) p.g (simp length-append (omega arith)) (omega arith))
    (rw (over-set-at l₂ d (3 * k + 2) p.b (simp length-append (omega arith)) (omega arith))
    (simp append_assoc)))

-- ---- shades in lists that are joined

-- a shade of the first list
shade-in-first : (l r : List ℕ) (k q : ℕ) → length l ≡ 3 * k → q < k → shade_at (l ++ r) q ≡ shade_at l q
shade-in-first l r k q e h =
    rw (
      get_or-append l r 0 (3 * q) (omega arith),
      get_or-append l r 0 (3 * q + 1) (omega arith),
      get_or-append l r 0 (3 * q + 2) (omega arith),
    )

-- the shade that is joined on
shade-joined : (l : List ℕ) (k : ℕ) (p : Point) → length l ≡ 3 * k → shade_at (l ++ flat p) k ≡ p
shade-joined l k p e =
    let z : 3 * k ≡ 3 * k + 0 = omega arith in
    rw (ap (λ t. get_or (l ++ flat p) t 0) z ∙ place 0, place 1, place 2)
  where
    place : (i : ℕ) → get_or (l ++ flat p) (3 * k + i) 0 ≡ get_or (flat p) i 0
    place i = ap (λ t. get_or (l ++ flat p) (t + i) 0) (sym e) ∙ get_or-append-add l (flat p) i 0

-- two lists on the grid, joined
join-low : (l r : List ℕ) → OnGrid l → OnGrid r → OnGrid (l ++ r)
join-low [] r h g i = g i
join-low (x ∷ l) r h g zero = h zero
join-low (x ∷ l) r h g (suc i) = join-low l r (λ j. h (suc j)) g i

-- the coordinates of a point on the grid
pub flat-low : (p : Point) → Within most_coordinate p → OnGrid (flat p)
flat-low p w zero = w.r_low
flat-low p w (suc zero) = w.g_low
flat-low p w (suc (suc zero)) = w.b_low
flat-low p w (suc (suc (suc i))) = omega arith

-- ---- given shades

-- the shades of a list on the grid are on the grid
pub listed-within : (l : List ℕ) → OnGrid l → (q : ℕ) → Within most_coordinate ((listed l).at q)
listed-within l low q = shade-within l q low

-- ---- the starts

module _ (B : Base) (n : ℕ) (c : ℕ → Point) where
  -- three coordinates for each start
  pub starts-length : (k : ℕ) → length (starts_from B n c k) ≡ 3 * k
  unfolding starts_from
  starts-length zero = refl
  starts-length (suc k) = simp length-append (omega (arith, starts-length k))

  -- start number q is the shade after the first q, whatever the number of starts
  pub shade-of-starts : (k q : ℕ) → q < k → shade_at (starts_from B n c k) q ≡ next_shade B n c q (starts_from B n c q)
  unfolding starts_from
  shade-of-starts zero q h = absurd (omega arith)
  shade-of-starts (suc k) q h =
      ⊎_elim
      (λ l. shade-in-first (starts_from B n c k) _ k q (starts-length k) l ∙ shade-of-starts k q l)
      (λ e. rw e (shade-joined (starts_from B n c k) k (next_shade B n c k (starts_from B n c k)) (starts-length k)))
      (below-or-last k q (omega arith))

  -- the starts over the front of a list, and the next one stored after them
  pub starts_more : (k : ℕ) (d : List ℕ) → 3 * k + 2 < length d
      → put_shade (over (starts_from B n c k) d) k (next_shade B n c k (starts_from B n c k))
      ≡ over (starts_from B n c (k + 1)) d
  unfolding starts_from
  starts_more k d h = rw (add-one k) (over-put (starts_from B n c k) d k _ (starts-length k) h)

  -- below their number stands a given shade
  pub next-given : (k : ℕ) (s : List ℕ) → k < B.given → next_shade B n c k s ≡ B.at k
  next-given k s h = rw (lt-ltb k B.given h)

  -- and from there on a colour
  pub next-chosen : (k : ℕ) (s : List ℕ) → B.given ≤ k
      → next_shade B n c k s ≡ c (most n (λ i. remote s k (c i)))
  next-chosen k s h = rw (le-ltb k B.given h)

  -- from given shades on the grid and colours on the grid, every next shade is on it
  pub next-within : (k : ℕ) (s : List ℕ) → ((q : ℕ) → Within most_coordinate (B.at q))
      → ((i : ℕ) → Within most_coordinate (c i)) → Within most_coordinate (next_shade B n c k s)
  next-within k s w h = go (ltb k B.given)
    where
      go : (t : Bool) → Within most_coordinate (cond t (B.at k) (c (most n (λ i. remote s k (c i)))))
      go true = w k
      go false = h (most n (λ i. remote s k (c i)))

  -- and so are the coordinates of the starts
  pub starts-low : (k : ℕ) → ((q : ℕ) → Within most_coordinate (B.at q)) → ((i : ℕ) → Within most_coordinate (c i))
      → OnGrid (starts_from B n c k)
  unfolding starts_from
  starts-low zero w h = λ i. omega arith
  starts-low (suc k) w h =
      let s = starts_from B n c k in
      join-low s (flat (next_shade B n c k s)) (starts-low k w h)
      (flat-low (next_shade B n c k s) (next-within k s w h))
