-- Laws of `sum`: how a loop builds one up, what it is at most, and how two sums compare or combine.
-- Laws that compare take their reason place by place, `(i : ℕ) → i < n → ..`, so that any way of writing
-- the summand will do.
use mathlib.Core.Path.{◌≡◌, refl, ap}
use mathlib.Core.Logic.{⊎_elim}
use mathlib.Core.Bool.{cond}
use Prim.Native.Nat.{ℕ, zero, suc, ◌+◌, ◌*◌, ◌≤◌, ◌<◌}
use native.Mathlib.Nat.{le-suc_iff, add-zero, mul-le-mul_left}
use native.Mathlib.Numerals.{add-one}
use native.Mathlib.Omega.{arith}
use native.Mathlib.Decide.{dec_lt}
use lib.Arith.{le-zero}
use lib.Dec.{eqb}
use borrow.Author.Tests.{eq-eqb, ne_eqb}
use Rattle.number.specs.Sum.{sum}

-- ---- one place more, and fewer places

-- one place more adds its value
pub sum_more : (n : ℕ) (f : ℕ → ℕ) → sum (n + 1) f ≡ sum n f + f n
unfolding sum
sum_more n f = rw (add-one n)

-- the sum over fewer places is at most the whole
pub sum-part : (i n : ℕ) (f : ℕ → ℕ) → i ≤ n → sum i f ≤ sum n f
unfolding sum
sum-part i zero f h = rw (le-zero h) (omega arith)
sum-part i (suc n) f h = ⊎_elim (λ l. omega (arith, sum-part i n f l)) (λ e. rw e (omega arith)) (le-suc_iff.0 h)

-- each value is at most the sum
pub sum-term : (i n : ℕ) (f : ℕ → ℕ) → i < n → f i ≤ sum n f
sum-term i n f h = omega (arith, sum-part (i + 1) n f (omega arith), sum_more i f)

-- a sum over a + n places is that over a, and that over the n behind
pub sum-parts : (a n : ℕ) (f : ℕ → ℕ) → sum (a + n) f ≡ sum a f + sum n (λ i. f (a + i))
unfolding sum
sum-parts a zero f = rw (add-zero a) (omega arith)
sum-parts a (suc n) f =
    let e : a + suc n ≡ suc (a + n) = omega arith in
    rw e (omega (arith, sum-parts a n f))

-- ---- place by place

-- values that are equal have equal sums
pub sum-eq : (n : ℕ) (f g : ℕ → ℕ) → ((i : ℕ) → i < n → f i ≡ g i) → sum n f ≡ sum n g
unfolding sum
sum-eq zero f g h = refl
sum-eq (suc n) f g h = omega (arith, sum-eq n f g (λ i l. h i (omega arith)), h n (omega arith))

-- values that are at most others sum to at most as much
pub sum-le : (n : ℕ) (f g : ℕ → ℕ) → ((i : ℕ) → i < n → f i ≤ g i) → sum n f ≤ sum n g
unfolding sum
sum-le zero f g h = omega arith
sum-le (suc n) f g h = omega (arith, sum-le n f g (λ i l. h i (omega arith)), h n (omega arith))

-- n values of at most m sum to at most n * m
pub sum_bound : (n m : ℕ) (f : ℕ → ℕ) → ((i : ℕ) → i < n → f i ≤ m) → sum n f ≤ n * m
unfolding sum
sum_bound zero m f h = omega arith
sum_bound (suc n) m f h = omega (arith, sum_bound n m f (λ i l. h i (omega arith)), h n (omega arith))

-- values in two parts: the sum is that of the one part and that of the other
pub sum-add : (n : ℕ) (f g h : ℕ → ℕ) → ((i : ℕ) → i < n → f i ≡ g i + h i) → sum n f ≡ sum n g + sum n h
unfolding sum
sum-add zero f g h e = refl
sum-add (suc n) f g h e = omega (arith, sum-add n f g h (λ i l. e i (omega arith)), e n (omega arith))

-- values with a factor in common: the sum has that factor
pub sum-mul : (n c : ℕ) (f g : ℕ → ℕ) → ((i : ℕ) → i < n → f i ≡ c * g i) → sum n f ≡ c * sum n g
unfolding sum
sum-mul zero c f g h = omega arith
sum-mul (suc n) c f g h = omega (arith, sum-mul n c f g (λ i l. h i (omega arith)), h n (omega arith))

-- weights times values of at most m sum to at most m for each unit of weight
pub sum-weighed : (n m : ℕ) (w f : ℕ → ℕ) → ((i : ℕ) → f i ≤ m) → sum n (λ i. w i * f i) ≤ m * sum n w
unfolding sum
sum-weighed zero m w f h = omega arith
sum-weighed (suc n) m w f h = omega (arith, sum-weighed n m w f h, mul-le-mul_left (w n) (h n))

-- ---- nothing to sum

-- zeros sum to zero
pub sum-zero : (n : ℕ) → sum n (λ i. 0) ≡ 0
unfolding sum
sum-zero zero = refl
sum-zero (suc n) = omega (arith, sum-zero n)

-- weights that come to 0 leave nothing to sum
pub sum-none : (n : ℕ) (w f : ℕ → ℕ) → sum n w ≡ 0 → sum n (λ i. w i * f i) ≡ 0
unfolding sum
sum-none zero w f e = refl
sum-none (suc n) w f e =
    let none : w n ≡ 0 = omega arith in
    omega (arith, sum-none n w f (omega arith), ap (λ t. t * f n) none)

-- ---- sums of sums

-- rows first or columns first, the sum is the same
pub sum-swap : (n k : ℕ) (f : ℕ → ℕ → ℕ) → sum n (λ i. sum k (λ j. f i j)) ≡ sum k (λ j. sum n (λ i. f i j))
unfolding sum
sum-swap zero k f = omega (arith, sum-zero k)
sum-swap (suc n) k f = omega (arith, sum-swap n k f, sum-add k _ (λ j. sum n (λ i. f i j)) (f n) (λ j l. refl))

-- the first place taken off a sum
pub sum-front : (n : ℕ) (f : ℕ → ℕ) → sum (suc n) f ≡ f 0 + sum n (λ i. f (suc i))
unfolding sum
sum-front zero f = omega arith
sum-front (suc n) f = omega (arith, sum-front n f)

-- ---- one place of many

-- a sum that lets no place below n through is 0
sum_past : (n a : ℕ) (f : ℕ → ℕ) → n ≤ a → sum n (λ j. cond (eqb a j) (f j) 0) ≡ 0
unfolding sum
sum_past zero a f h = refl
sum_past (suc n) a f h =
    rw (ne_eqb a n (λ z. omega arith)) (omega (arith, sum_past n a f (omega arith)))

-- a sum that lets one place through is that place's value
pub sum-only : (n a : ℕ) (f : ℕ → ℕ) → a < n → sum n (λ j. cond (eqb a j) (f j) 0) ≡ f a
unfolding sum
sum-only zero a f h = absurd (omega arith)
sum-only (suc n) a f h =
    elim (dec_lt a n) [
      | yes l ↦ rw (ne_eqb a n (λ z. omega arith)) (omega (arith, sum-only n a f l))
      | no l ↦
          let e : a ≡ n = omega arith in
          rw (eq-eqb a n e) (omega (arith, sum_past n a f (omega arith), ap f e))
    ]

-- two summands that differ at one place have sums that differ by as much
pub sum-change : (n i : ℕ) (f g : ℕ → ℕ) → i < n → ((j : ℕ) → (j ≡ i → ⊥) → f j ≡ g j)
    → sum n f + g i ≡ sum n g + f i
unfolding sum
sum-change zero i f g h same = absurd (omega arith)
sum-change (suc n) i f g h same =
    elim (dec_lt i n) [
      | yes l ↦ omega (arith, sum-change n i f g l same, same n (λ z. omega arith))
      | no l ↦
          let e : i ≡ n = omega arith in
          omega (arith, sum-eq n f g (λ j m. same j (λ z. omega arith)), ap f e, ap g e)
    ]
