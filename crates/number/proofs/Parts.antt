-- A part of a list: what its places hold, and what the list holds when the part comes back changed.
use Prim.Native.Nat.{ℕ, zero, suc, ◌+◌, ◌≤◌, ◌<◌}
use mathlib.Core.List.{List, [], ◌∷◌, ◌++◌}
use mathlib.Core.Path.{◌≡◌, refl, sym, ap, ◌∙◌}
use native.Mathlib.Omega.{arith}
use lib.ListN.{length, get_or, take, drop, get_or-append}
use lib.Seq.{length-take-le, get_or-append-add, get_or-take, get_or-drop, take-nil, drop-nil}
use borrow.Rule.Slice.PartMut.{mid_of, post_of}
use Rattle.number.specs.Fill.{fill, fill_from}
use Rattle.number.proofs.Fills.{fill-same, fill-nil, fill-length, fill-at, fill-kept}

-- place i of the part from a on is place a + i of the list
pub part_at : (a n i : ℕ) (d : List ℕ) → i < n → get_or (mid_of a n d) i 0 ≡ get_or d (a + i) 0
part_at a n i d h = get_or-take n (drop a d) i 0 h ∙ get_or-drop a d i 0

-- no place of a front is above m, if no place of the list is
pub take-at-most : (n m : ℕ) (d : List ℕ) → ((i : ℕ) → get_or d i 0 ≤ m) → (i : ℕ) → get_or (take n d) i 0 ≤ m
take-at-most zero m d low i = omega arith
take-at-most (suc n) m [] low i = omega arith
take-at-most (suc n) m (x ∷ d) low zero = low zero
take-at-most (suc n) m (x ∷ d) low (suc i) = take-at-most n m d (λ j. low (suc j)) i

-- a place before a part that is laid over the list keeps its value
pub laid-before : (a i : ℕ) (d x z : List ℕ) → a ≤ length d → i < a → get_or (take a d ++ (x ++ z)) i 0 ≡ get_or d i 0
laid-before a i d x z h l =
    get_or-append (take a d) (x ++ z) 0 i (rw (length-take-le a d h) l) ∙ get_or-take a d i 0 l

-- a place in the part holds what the part holds
pub laid_in : (a j : ℕ) (d x z : List ℕ) → a ≤ length d → j < length x
    → get_or (take a d ++ (x ++ z)) (a + j) 0 ≡ get_or x j 0
laid_in a j d x z h l =
    let e : length (take a d) ≡ a = length-take-le a d h in
    ap (λ t. get_or (take a d ++ (x ++ z)) (t + j) 0) (sym e)
    ∙ get_or-append-add (take a d) (x ++ z) j 0 ∙ get_or-append x z 0 j l

-- ---- a list filled part by part, and a stretch of it

-- filling a front part fills the list
front-filled : (n : ℕ) (f : ℕ → ℕ) (d : List ℕ) → fill n f (take n d) ++ drop n d ≡ fill n f d
unfolding fill
front-filled zero f d = refl
front-filled (suc n) f [] = refl
front-filled (suc n) f (x ∷ d) = ap {B = List ℕ} (λ t. f zero ∷ t) (front-filled n (λ i. f (suc i)) d)

-- a stretch lent on and come back filled is that stretch of the list filled
pub stretch-filled : (a n : ℕ) (f : ℕ → ℕ) (d : List ℕ)
    → take a d ++ (fill n f (mid_of a n d) ++ post_of a n d) ≡ fill_from a n f d
unfolding fill_from
stretch-filled a n f d = ap (λ t. take a d ++ t) (front-filled n f (drop a d))

-- a filled stretch keeps the length
pub from-length : (a n : ℕ) (f : ℕ → ℕ) (d : List ℕ) → length (fill_from a n f d) ≡ length d
unfolding fill_from fill
from-length zero n f d = fill-length n f d
from-length (suc a) n f [] = ap length (fill-nil n f)
from-length (suc a) n f (x ∷ d) = ap suc (from-length a n f d)

-- a place before the stretch keeps its value
pub from-before : (a n i : ℕ) (f : ℕ → ℕ) (d : List ℕ) → i < a → get_or (fill_from a n f d) i 0 ≡ get_or d i 0
unfolding fill_from
from-before zero n i f d h = absurd (omega arith)
from-before (suc a) n i f [] h = rw (fill-nil n f)
from-before (suc a) n zero f (x ∷ d) h = refl
from-before (suc a) n (suc i) f (x ∷ d) h = from-before a n i f d (omega arith)

-- a place of the stretch holds its value of f
pub from_at : (a n i : ℕ) (f : ℕ → ℕ) (d : List ℕ) → i < n → a + i < length d
    → get_or (fill_from a n f d) (a + i) 0 ≡ f i
unfolding fill_from
from_at zero n i f d h l =
    let z : 0 + i ≡ i = omega arith in
    rw z (fill-at n i f d h (omega arith))
from_at (suc a) n i f [] h l = absurd (omega arith)
from_at (suc a) n i f (x ∷ d) h l =
    let z : suc a + i ≡ suc (a + i) = omega arith in
    rw z (from_at a n i f d h (omega (arith, rw z at l)))

-- a place behind the stretch keeps its value
pub from-behind : (a n i : ℕ) (f : ℕ → ℕ) (d : List ℕ) → a + n ≤ i → get_or (fill_from a n f d) i 0 ≡ get_or d i 0
unfolding fill_from
from-behind zero n i f d h = fill-kept n i f d (omega arith)
from-behind (suc a) n i f [] h = rw (fill-nil n f)
from-behind (suc a) n zero f (x ∷ d) h = absurd (omega arith)
from-behind (suc a) n (suc i) f (x ∷ d) h = from-behind a n i f d (omega arith)

-- a stretch behind a filled front lengthens the front
front-joined : (n m : ℕ) (f g : ℕ → ℕ) (d : List ℕ) → ((i : ℕ) → i < m → g i ≡ f (n + i))
    → fill_from n m g (fill n f d) ≡ fill (n + m) f d
unfolding fill_from fill
front-joined zero n f g d e =
    let z : 0 + n ≡ n = omega arith in
    rw z (fill-same n g f d (λ i h. let y : 0 + i ≡ i = omega arith in e i h ∙ ap f y))
front-joined (suc n) m f g [] e = simp (drop-nil, fill-nil)
front-joined (suc n) m f g (x ∷ d) e =
    let z : suc n + m ≡ suc (n + m) = omega arith in
    rw z
    (ap {B = List ℕ} (λ t. f zero ∷ t)
    (front-joined n m (λ i. f (suc i)) g d (λ i h. let y : suc n + i ≡ suc (n + i) = omega arith in e i h ∙ ap f y)))

-- filling the part of n places from a on, of a list that is filled up to a, fills it up to a + n
pub part_filled : (a n : ℕ) (f g : ℕ → ℕ) (d : List ℕ) → ((i : ℕ) → i < n → g i ≡ f (a + i))
    → take a (fill a f d) ++ (fill n g (mid_of a n (fill a f d)) ++ post_of a n (fill a f d)) ≡ fill (a + n) f d
part_filled a n f g d e = stretch-filled a n g (fill a f d) ∙ front-joined a n f g d e

-- two stretches one after the other are one
pub from-joined : (a n m : ℕ) (f g : ℕ → ℕ) (d : List ℕ) → ((i : ℕ) → i < m → g i ≡ f (n + i))
    → fill_from (a + n) m g (fill_from a n f d) ≡ fill_from a (n + m) f d
unfolding fill_from fill
from-joined zero n m f g d e =
    let z : 0 + n ≡ n = omega arith in
    rw z (front-joined n m f g d e)
from-joined (suc a) n m f g [] e = simp (take-nil, drop-nil, fill-nil)
from-joined (suc a) n m f g (x ∷ d) e =
    let z : suc a + n ≡ suc (a + n) = omega arith in
    rw z (ap {B = List ℕ} (λ t. x ∷ t) (from-joined a n m f g d e))

-- values that agree fill a stretch alike
pub from-same : (a n : ℕ) (f g : ℕ → ℕ) (d : List ℕ) → ((i : ℕ) → i < n → f i ≡ g i)
    → fill_from a n f d ≡ fill_from a n g d
unfolding fill_from
from-same a n f g d e = ap (λ t. take a d ++ t) (fill-same n f g (drop a d) e)
