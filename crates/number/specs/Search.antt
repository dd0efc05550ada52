-- Searching places for the best value: the lowest place wins a tie. Which of two values is better is a parameter,
-- so that "nearest" and "farthest" are one search. Then the values themselves, and the first place that passes a test.
use Rattle.std.specs.Prelude.{ℕ, zero, suc, ◌≤◌, ◌<◌, ◌≡◌, Bool, true, false, cond, ltb}

-- the lowest place below n whose value no place below n betters; 0 where n is 0
unfoldable pub first_best : (ℕ → ℕ → Bool) → ℕ → (ℕ → ℕ) → ℕ
first_best better zero f = zero
first_best better (suc n) f = cond (better (f n) (f (first_best better n f))) n (first_best better n f)

-- the lowest place below n with the least value
abbrev pub least : ℕ → (ℕ → ℕ) → ℕ
least = first_best ltb

-- the lowest place below n with the greatest value
abbrev pub most : ℕ → (ℕ → ℕ) → ℕ
most = first_best (λ a b. ltb b a)

-- of the places in S, m has the best value, which is d, and every lower one of them has a worse one;
-- `Beats a b` says that a is better than b
pub record Best (Beats : ℕ → ℕ → Type 0) (S : ℕ → Type 0) (f : ℕ → ℕ) (m d : ℕ) : Type 0 where
  pub is : d ≡ f m
  pub member : S m
  pub unbettered : (j : ℕ) → S j → ¬ Beats (f j) d
  pub lower : (j : ℕ) → S j → j < m → Beats d (f j)

-- a test `better` that decides a relation, and what a search needs of that relation
pub record Order (better : ℕ → ℕ → Bool) (Beats : ℕ → ℕ → Type 0) : Type 0 where
  pub yes_is : (a b : ℕ) → better a b ≡ true → Beats a b
  pub no_is : (a b : ℕ) → better a b ≡ false → ¬ Beats a b
  pub one_way : (a b : ℕ) → Beats a b → ¬ Beats b a
  pub past_right : (a b c : ℕ) → Beats a b → ¬ Beats c b → Beats a c
  pub past_left : (a b c : ℕ) → Beats a b → ¬ Beats a c → Beats c b

-- the lesser of two numbers
abbrev pub lesser_of : ℕ → ℕ → ℕ
lesser_of a b = cond (ltb b a) b a

-- the greater of two numbers
abbrev pub greater_of : ℕ → ℕ → ℕ
greater_of a b = cond (ltb b a) a b

-- the greatest value below n; 0 where n is 0
unfoldable pub peak : ℕ → (ℕ → ℕ) → ℕ
peak zero f = zero
peak (suc n) f = greater_of (peak n f) (f n)

-- the least of `top` and the values below n
unfoldable pub lowest : ℕ → ℕ → (ℕ → ℕ) → ℕ
lowest top zero f = top
lowest top (suc n) f = lesser_of (lowest top n f) (f n)

-- the lowest place below n that passes the test b; n where none does
unfoldable pub first_that : ℕ → (ℕ → Bool) → ℕ
first_that zero b = zero
first_that (suc n) b = cond (ltb (first_that n b) n) (first_that n b) (cond (b n) n (suc n))

-- m is the first place below n that passes the test b, or n: no place before it passes, and it passes itself where it
-- is below n
pub record First (n : ℕ) (b : ℕ → Bool) (m : ℕ) : Type 0 where
  pub within : m ≤ n
  pub before : (i : ℕ) → i < m → b i ≡ false
  pub found : m < n → b m ≡ true
