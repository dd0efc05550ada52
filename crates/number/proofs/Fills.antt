-- Laws of `fill`: its length, what its places hold, and how a loop that stores place after place builds it up.
use mathlib.Core.List.{List, [], ◌∷◌}
use mathlib.Core.Path.{◌≡◌, refl, ap}
use Prim.Native.Nat.{ℕ, zero, suc, ◌+◌, ◌≤◌, ◌<◌}
use native.Mathlib.Numerals.{add-one}
use native.Mathlib.Omega.{arith}
use lib.ListN.{length, get_or, set, take, replicate}
use Rattle.number.specs.Fill.{fill}

-- filling keeps the length
pub fill-length : (n : ℕ) (f : ℕ → ℕ) (d : List ℕ) → length (fill n f d) ≡ length d
unfolding fill
fill-length zero f d = refl
fill-length (suc n) f [] = refl
fill-length (suc n) f (x ∷ d) = ap suc (fill-length n (λ i. f (suc i)) d)

-- a place past the filled ones keeps its value
pub fill-kept : (n i : ℕ) (f : ℕ → ℕ) (d : List ℕ) → n ≤ i → get_or (fill n f d) i 0 ≡ get_or d i 0
unfolding fill
fill-kept zero i f d h = refl
fill-kept (suc n) i f [] h = refl
fill-kept (suc n) zero f (x ∷ d) h = absurd (omega arith)
fill-kept (suc n) (suc i) f (x ∷ d) h = fill-kept n i (λ j. f (suc j)) d (omega arith)

-- a filled place holds its value of f
pub fill-at : (n i : ℕ) (f : ℕ → ℕ) (d : List ℕ) → i < n → i < length d → get_or (fill n f d) i 0 ≡ f i
unfolding fill
fill-at zero i f d h l = absurd (omega arith)
fill-at (suc n) i f [] h l = absurd (omega arith)
fill-at (suc n) zero f (x ∷ d) h l = refl
fill-at (suc n) (suc i) f (x ∷ d) h l = fill-at n i (λ j. f (suc j)) d (omega arith) (omega arith)

-- no place is above m, if no value of f and no place of the list is
pub fill-at-most : (n m : ℕ) (f : ℕ → ℕ) (d : List ℕ) → ((i : ℕ) → f i ≤ m) → ((i : ℕ) → get_or d i 0 ≤ m)
    → (i : ℕ) → get_or (fill n f d) i 0 ≤ m
unfolding fill
fill-at-most zero m f d h low i = low i
fill-at-most (suc n) m f [] h low i = low i
fill-at-most (suc n) m f (x ∷ d) h low zero = h zero
fill-at-most (suc n) m f (x ∷ d) h low (suc i) =
    fill-at-most n m (λ j. f (suc j)) d (λ j. h (suc j)) (λ j. low (suc j)) i

-- a store at the first place past the filled ones fills it; the count as the successor
fill_suc : (n : ℕ) (f : ℕ → ℕ) (d : List ℕ) → n < length d → set (fill n f d) n (f n) ≡ fill (suc n) f d
unfolding fill
fill_suc zero f [] h = absurd (omega arith)
fill_suc (suc n) f [] h = absurd (omega arith)
fill_suc zero f (x ∷ d) h = refl
fill_suc (suc n) f (x ∷ d) h = ap {B = List ℕ} (λ t. f zero ∷ t) (fill_suc n (λ i. f (suc i)) d (omega arith))

-- a store at the first place past the filled ones fills one place more
pub fill_more : (n : ℕ) (f : ℕ → ℕ) (d : List ℕ) → n < length d → set (fill n f d) n (f n) ≡ fill (n + 1) f d
fill_more n f d h = rw (add-one n) (fill_suc n f d h)

-- filled twice is filled once, by the second
pub fill-again : (n : ℕ) (f g : ℕ → ℕ) (d : List ℕ) → fill n f (fill n g d) ≡ fill n f d
unfolding fill
fill-again zero f g d = refl
fill-again (suc n) f g [] = refl
fill-again (suc n) f g (x ∷ d) =
    ap {B = List ℕ} (λ l. f zero ∷ l) (fill-again n (λ i. f (suc i)) (λ i. g (suc i)) d)

-- a list that holds the values already stays
pub fill-self : (n : ℕ) (f : ℕ → ℕ) (d : List ℕ) → ((i : ℕ) → i < n → get_or d i 0 ≡ f i) → fill n f d ≡ d
unfolding fill
fill-self zero f d e = refl
fill-self (suc n) f [] e = refl
fill-self (suc n) f (x ∷ d) e =
    rw (← e zero (omega arith))
    (ap {B = List ℕ} (λ l. x ∷ l) (fill-self n (λ i. f (suc i)) d (λ i l. e (suc i) (omega arith))))

-- values that agree fill alike
pub fill-same : (n : ℕ) (f g : ℕ → ℕ) (d : List ℕ) → ((i : ℕ) → i < n → f i ≡ g i) → fill n f d ≡ fill n g d
unfolding fill
fill-same zero f g d e = refl
fill-same (suc n) f g [] e = refl
fill-same (suc n) f g (x ∷ d) e =
    rw (e zero (omega arith))
    (ap {B = List ℕ} (λ l. g zero ∷ l)
    (fill-same n (λ i. f (suc i)) (λ i. g (suc i)) d (λ i l. e (suc i) (omega arith))))

-- the front of a filled list is the front, filled
pub fill-take : (n : ℕ) (f : ℕ → ℕ) (d : List ℕ) → take n (fill n f d) ≡ fill n f (take n d)
unfolding fill
fill-take zero f d = refl
fill-take (suc n) f [] = refl
fill-take (suc n) f (x ∷ d) = ap {B = List ℕ} (λ l. f zero ∷ l) (fill-take n (λ i. f (suc i)) d)

-- of no places none is filled
pub fill-nil : (n : ℕ) (f : ℕ → ℕ) → fill n f [] ≡ []
unfolding fill
fill-nil zero f = refl
fill-nil (suc n) f = refl

-- zeros are zeros, also past their end
pub zeros-at : (n i : ℕ) → get_or {A = ℕ} (replicate n 0) i 0 ≡ 0
zeros-at zero i = refl
zeros-at (suc n) zero = refl
zeros-at (suc n) (suc i) = zeros-at n i
