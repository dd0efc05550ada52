-- Laws of the lesser and the greater, of the greatest, whose first place is `most`, and of the least.
use mathlib.Core.Bool.{Bool, true, false, cond}
use mathlib.Core.Logic.{⊎_elim}
use mathlib.Core.Path.{◌≡◌, refl, sym, ap, ◌∙◌}
use Prim.Native.Nat.{ℕ, zero, suc, ◌+◌, ◌≤◌, ◌<◌}
use native.Mathlib.Numerals.{add-one}
use native.Mathlib.Omega.{arith}
use native.Mathlib.Decide.{dec_lt}
use lib.Dec.{ltb}
use borrow.Author.Tests.{lt-ltb, ltb-true, ltb-false}
use Rattle.number.specs.Search.{first_best, least, most, lesser_of, greater_of, peak, lowest}
use Rattle.number.proofs.Searches.{below-or-last, first_below, first-is-best, rising, falling}

-- neither of two numbers is below the lesser
pub lesser-at-most : (a b : ℕ) → (lesser_of a b ≤ a) × (lesser_of a b ≤ b)
lesser-at-most a b = go (ltb b a) refl
  where
    go : (t : Bool) → ltb b a ≡ t → (cond t b a ≤ a) × (cond t b a ≤ b)
    go true e = let h = ltb-true b a e in (omega arith, omega arith)
    go false e = let h = ltb-false b a e in (omega arith, omega arith)

-- neither of two numbers is above the greater
pub greater-at-least : (a b : ℕ) → (a ≤ greater_of a b) × (b ≤ greater_of a b)
greater-at-least a b = go (ltb b a) refl
  where
    go : (t : Bool) → ltb b a ≡ t → (a ≤ cond t a b) × (b ≤ cond t a b)
    go true e = let h = ltb-true b a e in (omega arith, omega arith)
    go false e = let h = ltb-false b a e in (omega arith, omega arith)

-- what holds of two numbers holds of the lesser and of the greater
pub either-has : (P : ℕ → Type 0) (a b : ℕ) → P a → P b → P (lesser_of a b) × P (greater_of a b)
either-has P a b x y = go (ltb b a)
  where
    go : (t : Bool) → P (cond t b a) × P (cond t a b)
    go true = (y, x)
    go false = (x, y)

-- the lesser of two is at most the greater
pub lesser-at-most-greater : (a b : ℕ) → lesser_of a b ≤ greater_of a b
lesser-at-most-greater a b = go (ltb b a) refl
  where
    go : (t : Bool) → ltb b a ≡ t → cond t b a ≤ cond t a b
    go true e = let h = ltb-true b a e in omega arith
    go false e = let h = ltb-false b a e in omega arith

-- one place more: the greater of the greatest so far and its value
pub peak-more : (n : ℕ) (f : ℕ → ℕ) → peak (n + 1) f ≡ greater_of (peak n f) (f n)
unfolding peak
peak-more n f = rw (add-one n)

-- no value is above the greatest
pub peak-at-least : (n i : ℕ) (f : ℕ → ℕ) → i < n → f i ≤ peak n f
unfolding peak
peak-at-least zero i f h = absurd (omega arith)
peak-at-least (suc n) i f h =
    ⊎_elim
    (λ l. omega (arith, peak-at-least n i f l, greater-at-least (peak n f) (f n)))
    (λ e. rw e (greater-at-least (peak n f) (f n)).1)
    (below-or-last n i (omega arith))

-- values that agree have the same greatest
pub peak-same : (n : ℕ) (f g : ℕ → ℕ) → ((i : ℕ) → i < n → f i ≡ g i) → peak n f ≡ peak n g
unfolding peak
peak-same zero f g e = refl
peak-same (suc n) f g e = rw (e n (omega arith), peak-same n f g (λ i l. e i (omega arith)))

-- what no value is above, the greatest is not above
peak-at-most : (n a : ℕ) (f : ℕ → ℕ) → ((i : ℕ) → i < n → f i ≤ a) → peak n f ≤ a
unfolding peak
peak-at-most zero a f h = omega arith
peak-at-most (suc n) a f h =
    (either-has (λ t. t ≤ a) (peak n f) (f n) (peak-at-most n a f (λ i l. h i (omega arith))) (h n (omega arith))).1

-- no value is above that of `most`
most-top : (n i : ℕ) (f : ℕ → ℕ) → i < n → f i ≤ f (most n f)
most-top n i f h = let none = (first-is-best falling f n (omega arith)).unbettered i h in omega arith

-- `most` has the greatest value
pub most-is-peak : (n : ℕ) (f : ℕ → ℕ) → 0 < n → f (most n f) ≡ peak n f
most-is-peak n f h =
    omega (
      arith,
      peak-at-least n (most n f) f (first_below (λ a b. ltb b a) n f h),
      peak-at-most n (f (most n f)) f (λ i l. most-top n i f l),
    )

-- and is the first place that has it
pub first-peak-is-most : (n i : ℕ) (f : ℕ → ℕ) → i < n → f i ≡ peak n f → ((j : ℕ) → j < i → f j < peak n f)
    → i ≡ most n f
first-peak-is-most n i f h e before = go (dec_lt i (most n f)) (dec_lt (most n f) i)
  where
    some : 0 < n
    some = omega arith

    go : Dec (i < most n f) → Dec (most n f < i) → i ≡ most n f
    go (yes l) w = absurd (omega (arith, (first-is-best falling f n some).lower i h l, most-is-peak n f some))
    go (no l) (yes w) = absurd (omega (arith, before (most n f) w, most-is-peak n f some))
    go (no l) (no w) = omega arith

-- ---- the least, kept as a loop goes on

-- one place more: the lesser of the least so far and its value
pub lowest-more : (top n : ℕ) (f : ℕ → ℕ) → lowest top (n + 1) f ≡ lesser_of (lowest top n f) (f n)
unfolding lowest
lowest-more top n f = rw (add-one n)

-- of no values it is the top
pub lowest-none : (top : ℕ) (f : ℕ → ℕ) → lowest top 0 f ≡ top
unfolding lowest
lowest-none top f = refl

-- no value is below that of `least`
pub least-at-most : (n i : ℕ) (f : ℕ → ℕ) → i < n → f (least n f) ≤ f i
least-at-most n i f h = let none = (first-is-best rising f n (omega arith)).unbettered i h in omega arith

-- the least value of one place more is the lesser of the least so far and its own
least-value : (n : ℕ) (f : ℕ → ℕ) → f (least (suc n) f) ≡ lesser_of (f (least n f)) (f n)
unfolding first_best
least-value n f = go (ltb (f n) (f (least n f)))
  where
    go : (t : Bool) → f (cond t n (least n f)) ≡ cond t (f n) (f (least n f))
    go true = refl
    go false = refl

-- where every value is below the top, the least is that of `least`
pub lowest-is-least : (top n : ℕ) (f : ℕ → ℕ) → 0 < n → ((i : ℕ) → i < n → f i < top)
    → lowest top n f ≡ f (least n f)
unfolding lowest
lowest-is-least top zero f some low = absurd (omega arith)
lowest-is-least top (suc zero) f some low =
    let first : least 1 f ≡ 0 = omega (arith, first_below ltb 1 f (omega arith)) in
    rw (lt-ltb (f 0) top (low 0 (omega arith)), first)
lowest-is-least top (suc (suc n)) f some low =
    ap (λ t. lesser_of t (f (suc n))) (lowest-is-least top (suc n) f (omega arith) (λ i l. low i (omega arith)))
    ∙ sym (least-value (suc n) f)
