-- Laws of a sum over the elements of a list.
use mathlib.Core.Path.{◌≡◌, refl, ◌∙◌}
use mathlib.Core.List.{List, [], ◌∷◌, ◌++◌}
use Prim.Native.Nat.{ℕ, zero, suc, ◌+◌, ◌*◌, ◌≤◌, ◌<◌}
use native.Mathlib.Numerals.{add-one}
use native.Mathlib.Omega.{arith}
use lib.ListN.{length, get_or, take}
use lib.Seq.{take-suc}
use Rattle.number.specs.Sum.{sum, sum_of, numbers_below}

-- two lists joined add up to both sums
pub sum_of-append : {A : Type 0} (f : A → ℕ) (xs ys : List A) → sum_of f (xs ++ ys) ≡ sum_of f xs + sum_of f ys
sum_of-append f [] ys = omega arith
sum_of-append f (x ∷ xs) ys = omega (arith, sum_of-append f xs ys)

-- ones add up to the length
pub sum_of-ones : {A : Type 0} (xs : List A) → sum_of (λ (x : A). 1) xs ≡ length xs
sum_of-ones [] = refl
sum_of-ones (x ∷ xs) = omega (arith, sum_of-ones xs)

-- values that are equal have equal sums
pub sum_of-eq : {A : Type 0} (f g : A → ℕ) (xs : List A) → ((x : A) → f x ≡ g x) → sum_of f xs ≡ sum_of g xs
sum_of-eq f g [] h = refl
sum_of-eq f g (x ∷ xs) h = omega (arith, h x, sum_of-eq f g xs h)

-- values of at most m add up to at most m for each element
pub sum_of-bound : {A : Type 0} (m : ℕ) (f : A → ℕ) (xs : List A) → ((x : A) → f x ≤ m) → sum_of f xs ≤ m * length xs
sum_of-bound m f [] h = omega arith
sum_of-bound m f (x ∷ xs) h = omega (arith, h x, sum_of-bound m f xs h)

-- one element more of the front of a list adds its value
pub sum_of-more : (f : ℕ → ℕ) (i : ℕ) (xs : List ℕ) → i < length xs
    → sum_of f (take (i + 1) xs) ≡ sum_of f (take i xs) + f (get_or xs i 0)
sum_of-more f i xs l =
    rw (add-one, take-suc xs i 0 l) (sum_of-append f (take i xs) (get_or xs i 0 ∷ []) ∙ omega arith)

-- the front of a list, place by place
pub sum_of-take : (f : ℕ → ℕ) (n : ℕ) (xs : List ℕ) → n ≤ length xs
    → sum_of f (take n xs) ≡ sum n (λ i. f (get_or xs i 0))
unfolding sum
sum_of-take f zero xs l = refl
sum_of-take f (suc n) xs l =
    (rw add-one at (sum_of-more f n xs l)) ∙ omega (arith, sum_of-take f n xs (omega arith))

-- over the numbers below n it is the sum over the places below n
pub sum_of-numbers : (n : ℕ) (f : ℕ → ℕ) → sum_of f (numbers_below n) ≡ sum n f
unfolding numbers_below sum
sum_of-numbers zero f = refl
sum_of-numbers (suc n) f = omega (arith, sum_of-append f (numbers_below n) (n ∷ []), sum_of-numbers n f)
