-- Laws of searches: of `Best`, over any order and any set S of places looked at, and of `first_best`, which finds it.
-- A search goes on step by step, from S to S': it looks at one place q more, or takes in places that are worse.
-- There is one best only, so whatever way a search goes, it ends at `first_best`.
use mathlib.Core.Bool.{Bool, true, false, cond}
use mathlib.Core.Logic.{◌⊎◌, inl, inr, ⊎_elim}
use mathlib.Core.Path.{◌≡◌, refl, ap, sym, ◌∙◌}
use Prim.Native.Nat.{ℕ, zero, suc, ◌+◌, ◌≤◌, ◌<◌}
use native.Mathlib.Decide.{dec_lt}
use native.Mathlib.Numerals.{add-one}
use native.Mathlib.Omega.{arith}
use lib.Dec.{ltb}
use borrow.Author.Tests.{ltb-true, ltb-false}
use Rattle.number.specs.Search.{first_best, Best, Order}

-- ---- `first_best`, by any test

-- of two numbers below n, either is below n
either-below : (t : Bool) (a b n : ℕ) → a < n → b < n → cond t a b < n
either-below true a b n h k = h
either-below false a b n h k = k

module _ (better : ℕ → ℕ → Bool) where
  -- one place more, whose value is not better, leaves the first best where it is
  pub first-stays : (n : ℕ) (f : ℕ → ℕ) → better (f n) (f (first_best better n f)) ≡ false
      → first_best better (n + 1) f ≡ first_best better n f
  unfolding first_best
  first-stays n f e = rw (add-one n, e)

  -- one place more, the count as the successor
  first-suc : (n : ℕ) (f : ℕ → ℕ)
      → first_best better (suc n) f ≡ cond (better (f n) (f (first_best better n f))) n (first_best better n f)
  unfolding first_best
  first-suc n f = refl

  -- the first best of one place is that place
  first_one : (f : ℕ → ℕ) → first_best better 1 f ≡ 0
  unfolding first_best
  first_one f = go (better (f 0) (f 0))
    where
      go : (t : Bool) → cond t zero zero ≡ zero
      go true = refl
      go false = refl

  -- the first best of some places is one of them
  pub first_below : (n : ℕ) (f : ℕ → ℕ) → 0 < n → first_best better n f < n
  first_below zero f h = absurd (omega arith)
  first_below (suc zero) f h = omega (arith, first_one f)
  first_below (suc (suc n)) f h =
      let m = first_best better (suc n) f in
      let b = first_below (suc n) f (omega arith) in
      rw (first-suc (suc n) f) (either-below (better (f (suc n)) (f m)) (suc n) m _ (omega arith) (omega arith))

  -- where f and g agree below n, they have the same first best
  pub first-same : (n : ℕ) (f g : ℕ → ℕ) → ((j : ℕ) → j < n → f j ≡ g j) → first_best better n f ≡ first_best better n g
  unfolding first_best
  first-same zero f g e = refl
  first-same (suc zero) f g e = first_one f ∙ sym (first_one g)
  first-same (suc (suc n)) f g e =
      let h = first-same (suc n) f g (λ j l. e j (omega arith)) in
      let k = e (first_best better (suc n) f) (omega (arith, first_below (suc n) f (omega arith))) in
      cc (first-suc (suc n) f, first-suc (suc n) g, h, k, e (suc n) (omega arith))

-- ---- `Best`, by any relation

module _ {Beats : ℕ → ℕ → Type 0} {f : ℕ → ℕ} where
  -- one place q more is looked at, it is no better, and at a tie the best has the lower number: the best stays
  best-stay : {S S' : ℕ → Type 0} {m d : ℕ} (q : ℕ) → Best Beats S f m d → ((j : ℕ) → S j → S' j)
      → ((j : ℕ) → S' j → S j ⊎ (j ≡ q)) → ¬ Beats (f q) d → m ≤ q → Best Beats S' f m d
  best-stay {m = m} q b more parts worse le =
      record {
        is = b.is;
        member = more m b.member;
        unbettered = λ j s. ⊎_elim (b.unbettered j) (λ e. rw e worse) (parts j s);
        lower = λ j s l. ⊎_elim (λ h. b.lower j h l) (λ e. absurd (omega arith)) (parts j s);
      }

  -- of two bests, neither has the lower place: its value would be beaten by that of the other
  best-not-lower : {S : ℕ → Type 0} {m n d e : ℕ} → Best Beats S f m d → Best Beats S f n e → ¬ (m < n)
  best-not-lower {m = m} {n = n} b c l =
      b.unbettered n c.member (rw (c.is, ← b.is) at (c.lower m b.member l))

  -- there is one best only: the place is the same, and the value too
  pub best-only : {S : ℕ → Type 0} {m n d e : ℕ} → Best Beats S f m d → Best Beats S f n e → (m ≡ n) × (d ≡ e)
  best-only {m = m} {n = n} b c =
      let same : m ≡ n = omega (arith, best-not-lower b c, best-not-lower c b) in
      (same, b.is ∙ (ap f same ∙ sym c.is))

-- ---- `Best`, by an order

-- no value beats itself
not_itself : {better : ℕ → ℕ → Bool} {Beats : ℕ → ℕ → Type 0} → Order better Beats → (a : ℕ) → ¬ Beats a a
not_itself o a w = o.one_way a a w w

module _ {better : ℕ → ℕ → Bool} {Beats : ℕ → ℕ → Type 0} (o : Order better Beats) {f : ℕ → ℕ} where
  -- the only place looked at is the best
  best-one : {S : ℕ → Type 0} (m : ℕ) → S m → ((j : ℕ) → S j → j ≡ m) → Best Beats S f m (f m)
  best-one m h only =
      record {
        is = refl;
        member = h;
        unbettered = λ j s. rw (only j s) (not_itself o (f m));
        lower = λ j s l. absurd (omega (arith, only j s));
      }

  -- places are taken in that are worse: the best stays
  pub best-keep : {S S' : ℕ → Type 0} {m d : ℕ} → Best Beats S f m d → ((j : ℕ) → S j → S' j)
      → ((j : ℕ) → S' j → S j ⊎ Beats d (f j)) → Best Beats S' f m d
  best-keep {m = m} {d = d} b more parts =
      record {
        is = b.is;
        member = more m b.member;
        unbettered = λ j s. ⊎_elim (b.unbettered j) (o.one_way d (f j)) (parts j s);
        lower = λ j s l. ⊎_elim (λ i. b.lower j i l) (λ w. w) (parts j s);
      }

  -- one place q more is looked at, and it is better: it is the best
  best-found : {S S' : ℕ → Type 0} {m d : ℕ} (q : ℕ) → Best Beats S f m d → S' q
      → ((j : ℕ) → S' j → S j ⊎ (j ≡ q)) → Beats (f q) d → Best Beats S' f q (f q)
  best-found {d = d} q b h parts better-than =
      record {
        is = refl;
        member = h;
        unbettered = λ j s. ⊎_elim
            (λ i. o.one_way (f q) (f j) (o.past_right (f q) d (f j) better-than (b.unbettered j i)))
            (λ e. rw e (not_itself o (f q))) (parts j s);
        lower = λ j s l. ⊎_elim (λ i. o.past_right (f q) d (f j) better-than (b.unbettered j i))
            (λ e. absurd (omega arith)) (parts j s);
      }

-- ---- `first_best`, by an order

-- a place below n + 1 is below n, or n
pub below-or-last : (n j : ℕ) → j < n + 1 → (j < n) ⊎ (j ≡ n)
below-or-last n j h = elim (dec_lt j n) [ yes l ↦ inl l | no l ↦ inr (omega arith) ]

module _ {better : ℕ → ℕ → Bool} {Beats : ℕ → ℕ → Type 0} (o : Order better Beats) (f : ℕ → ℕ) where
  -- the best of the places below n, compared with place n
  first_step : (n m : ℕ) → Best Beats (λ j. j < n) f m (f m) → (t : Bool) → better (f n) (f m) ≡ t
      → Best Beats (λ j. j < suc n) f (cond t n m) (f (cond t n m))
  first_step n m b true e =
      best-found o n b (omega arith) (λ j l. below-or-last n j (omega arith)) (o.yes_is (f n) (f m) e)
  first_step n m b false e =
      let worse = o.no_is (f n) (f m) e in
      best-stay n b (λ j l. omega arith) (λ j l. below-or-last n j (omega arith)) worse (omega (arith, b.member))

  -- of the places below n, `first_best` is the best
  pub first-is-best : (n : ℕ) → 0 < n → Best Beats (λ j. j < n) f (first_best better n f) (f (first_best better n f))
  first-is-best zero h = absurd (omega arith)
  first-is-best (suc zero) h = rw (first_one better f) (best-one o 0 h (λ j l. omega arith))
  first-is-best (suc (suc n)) h =
      rw (first-suc better (suc n) f)
      (first_step (suc n) (first_best better (suc n) f) (first-is-best (suc n) (omega arith)) _ refl)

  -- whatever place is the best of those below n, it is `first_best`
  pub best-is-first : (n : ℕ) {m d : ℕ} → 0 < n → Best Beats (λ j. j < n) f m d → m ≡ first_best better n f
  best-is-first n h b = (best-only b (first-is-best n h)).0

-- ---- the two orders

-- the less is the better
pub rising : Order ltb (λ a b. a < b)
rising =
    record {
      yes_is = ltb-true;
      no_is = λ a b e. let h = ltb-false a b e in λ l. omega arith;
      one_way = λ a b l k. omega arith;
      past_right = λ a b c h k. omega arith;
      past_left = λ a b c h k. omega arith;
    }

-- the greater is the better
pub falling : Order (λ a b. ltb b a) (λ a b. b < a)
falling =
    record {
      yes_is = λ a b e. ltb-true b a e;
      no_is = λ a b e. let h = ltb-false b a e in λ l. omega arith;
      one_way = λ a b l k. omega arith;
      past_right = λ a b c h k. omega arith;
      past_left = λ a b c h k. omega arith;
    }
