-- Values among others. Of some values that all differ, those that are none of some others are as many as are left when
-- each of the others that is one of them, and has no equal before it, takes one away.
use mathlib.Core.Bool.{Bool, true, false, not, ◌&&◌, ◌||◌}
use mathlib.Core.Logic.{inl, inr}
use mathlib.Core.Path.{◌≡◌, sym, ap, ◌∙◌}
use Prim.Native.Nat.{ℕ, zero, suc, ◌+◌, ◌<◌}
use native.Mathlib.Decide.{ℕ_discrete}
use native.Mathlib.Nat.{add-zero}
use native.Mathlib.Omega.{arith}
use lib.Dec.{ltb, eqb}
use borrow.Author.Tests.{lt-ltb, ltb-true, eq-eqb, ne_eqb, eqb-true}
use Rattle.std.specs.List.{list_any, range_with_len}
use Rattle.number.specs.{bit, how_many}
use Rattle.number.proofs.Cases.{bool, never}
use Rattle.number.proofs.Counts.{none-how_many}
use Rattle.number.proofs.Tallies.{
  how_many-all,
  how_many-find,
  how_many-first,
  how_many-last,
  how_many-others,
  how_many-same,
  how_many-some,
}
use Rattle.lloyd_stock.specs.Keys.{among}

-- ---- one value among others

module _ (n : ℕ) (f : ℕ → ℕ) (v : ℕ) where
  -- it is one of them where a place holds it
  pub among-found : (i : ℕ) → i < n → f i ≡ v → among n f v ≡ true
  among-found i l e = lt-ltb 0 _ (how_many-some n i (λ j. eqb (f j) v) l (eq-eqb (f i) v e))

  -- and none where no place does
  pub among_none : ((i : ℕ) → i < n → ¬ (f i ≡ v)) → among n f v ≡ false
  among_none d = rw (none-how_many n (λ i. eqb (f i) v) (λ i l. ne_eqb (f i) v (d i l)))

  -- where it is one of them a place holds it
  pub among-place : among n f v ≡ true → (i : ℕ) × (i < n) × (f i ≡ v)
  among-place h =
      let p = how_many-find n (λ i. eqb (f i) v) (ltb-true 0 _ h) in
      (p.0, p.1, eqb-true (f p.0) v p.2)

  -- and where it is none no place does
  pub among-differs : among n f v ≡ false → (i : ℕ) → i < n → ¬ (f i ≡ v)
  among-differs h i l e = never (sym (among-found i l e) ∙ h)

-- it is one of n and one more exactly where it is that one, or one of the n
pub among-more : (n : ℕ) (f : ℕ → ℕ) (v : ℕ) → among (suc n) f v ≡ (eqb (f n) v || among n f v)
among-more n f v = elim (bool (eqb (f n) v)) [
  | inl t ↦ simp t (among-found (suc n) f v n (omega arith) (eqb-true (f n) v t))
  | inr t ↦
      let e : how_many (suc n) (λ i. eqb (f i) v) ≡ how_many n (λ i. eqb (f i) v) =
      omega (arith, how_many-last n (λ i. eqb (f i) v), ap bit t) in
      simp t (ap (ltb 0) e)
]

-- one more place changes nothing where what it holds is held before it
among-kept : (n : ℕ) (f : ℕ → ℕ) (v : ℕ) → (f n ≡ v → among n f v ≡ true) → among (suc n) f v ≡ among n f v
among-kept n f v same = among-more n f v ∙ elim (bool (eqb (f n) v)) [
  | inl t ↦ simp (t, same (eqb-true (f n) v t))
  | inr t ↦ simp t
]

-- ---- a search for a value

-- some place passes a test exactly where those that pass are counted above 0; a is the first place
any-counted : (t : ℕ → Bool) (n a : ℕ) → list_any t (range_with_len a n) ≡ ltb 0 (how_many n (λ i. t (a + i)))
any-counted t zero a = rw (none-how_many 0 (λ i. t (a + i)) (λ i l. absurd (omega arith)))
any-counted t (suc n) a = elim (bool (t a)) [
  | inl h ↦
      let first : t (a + 0) ≡ true = rw add-zero h in
      simp h (sym (lt-ltb 0 _ (how_many-some (suc n) 0 (λ i. t (a + i)) (omega arith) first)))
  | inr h ↦
      let first : t (a + 0) ≡ false = rw add-zero h in
      let next : how_many n (λ i. t (a + 1 + i)) ≡ how_many n (λ i. t (a + suc i)) =
      how_many-same n _ _ (λ i l. ap t (omega arith)) in
      simp h (any-counted t n (a + 1)
      ∙ ap (ltb 0) (omega (arith, how_many-first n (λ i. t (a + i)), ap bit first, next)))
]

-- so it is one of n values where a search of their places finds it
pub any-among : (n : ℕ) (f : ℕ → ℕ) (v : ℕ) → list_any (λ i. eqb (f i) v) (range_with_len 0 n) ≡ among n f v
any-among n f v =
    any-counted (λ i. eqb (f i) v) n 0
    ∙ ap (ltb 0) (how_many-same n _ _ (λ i l. ap (λ j. eqb (f j) v) (omega arith)))

-- ---- values that are none of some others

module _ (n : ℕ) (a : ℕ → ℕ) (b : ℕ → ℕ) where
  -- how many of the first n values of a are none of the first k of b
  abbrev others : ℕ → ℕ
  others k = how_many n (λ i. not (among k b (a i)))

  -- value k of b takes one: it is one of a's, and has no equal before it
  abbrev takes : ℕ → Bool
  takes k = among n a (b k) && not (among k b (b k))

  -- a value of b takes none where each of a's that is the same is one of the earlier ones
  others-kept : (k : ℕ) → ((i : ℕ) → i < n → b k ≡ a i → among k b (a i) ≡ true) → others (suc k) ≡ others k
  others-kept k same =
      how_many-same n (λ i. not (among (suc k) b (a i))) (λ i. not (among k b (a i)))
      (λ i l. ap not (among-kept k b (a i) (same i l)))

  module _ (differ : (i j : ℕ) → i < n → j < n → a i ≡ a j → i ≡ j) where
    -- it takes one where it is that of place j, and has no equal before it
    others-fewer : (k j : ℕ) → j < n → a j ≡ b k → among k b (b k) ≡ false → others k ≡ others (suc k) + 1
    others-fewer k j l e first =
        omega (
          arith,
          how_many-others n j (λ i. not (among k b (a i))) l (rw (e, first)),
          how_many-same n (λ i. not (among (suc k) b (a i))) (λ i. not (eqb i j) && not (among k b (a i)))
              (λ i h. ap not (among-more k b (a i)) ∙ only i h),
        )
      where
        only : (i : ℕ) → i < n → not (eqb (b k) (a i) || among k b (a i)) ≡ (not (eqb i j) && not (among k b (a i)))
        only i h = elim (ℕ_discrete i j) [
          | yes s ↦ simp (eq-eqb i j s, eq-eqb (b k) (a i) (sym (ap a s ∙ e)))
          | no d ↦ simp (ne_eqb i j d, ne_eqb (b k) (a i) (λ s. d (differ i j h l (sym (e ∙ s)))))
        ]

    -- so one value more takes one or none: none where it is none of a's, or has an equal before it
    others-step : (k : ℕ) → others k ≡ others (suc k) + bit (takes k)
    others-step k = elim (bool (among n a (b k))) [
      | inl in-a ↦ elim (bool (among k b (b k))) [
        | inl again ↦ simp (in-a, again) (omega (arith, others-kept k (λ i l e. rw (← e) again)))
        | inr first ↦
            let p = among-place n a (b k) in-a in
            simp (in-a, first) (others-fewer k p.0 p.1 p.2 first)
      ]
      | inr out ↦ simp out (omega (
        arith,
        others-kept k (λ i l e. absurd (among-differs n a (b k) out i l (sym e))),
      ))
    ]

    -- those that are none of k others, and those that take one, are all
    pub others-and-takes : (k : ℕ) → how_many n (λ i. not (among k b (a i)))
        + how_many k (λ q. among n a (b q) && not (among q b (b q))) ≡ n
    others-and-takes zero =
        omega (
          arith,
          how_many-all n (λ i. not (among 0 b (a i)))
              (λ i l. ap not (among_none 0 b (a i) (λ j h. absurd (omega arith)))),
          none-how_many 0 takes (λ i l. absurd (omega arith)),
        )
    others-and-takes (suc k) = omega (arith, others-step k, how_many-last k takes, others-and-takes k)
