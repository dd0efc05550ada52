-- More laws of `how_many`: counts of tests that agree, of places in a row, of all, of some, of all but one, of two and
-- of one at most; of one test against two others; counts by value, added up; and a loop that counts.
use mathlib.Core.Bool.{Bool, true, false, cond, not, ◌&&◌}
use mathlib.Core.Logic.{◌⊎◌, inl, inr, ⊎_elim}
use mathlib.Core.Path.{◌≡◌, refl, sym, ap, ◌∙◌}
use Prim.Native.Nat.{ℕ, zero, suc, ◌+◌, ◌≤◌, ◌<◌}
use native.Mathlib.Nat.{le_refl, add-zero}
use native.Mathlib.Decide.{dec_lt}
use native.Mathlib.Omega.{arith}
use lib.Dec.{eqb}
use borrow.Author.Tests.{eq-eqb, ne_eqb}
use Rattle.number.specs.Count.{bit, how_many}
use Rattle.number.specs.Sum.{sum}
use Rattle.number.proofs.Cases.{bool, both, never}
use Rattle.number.proofs.Counts.{how_many-at-most, how_many-counted, none-how_many}
use Rattle.number.proofs.Searches.{below-or-last}
use Rattle.number.proofs.Sums.{sum-eq, sum-le, sum-add, sum-zero, sum-only}

-- a count goes up by what the test adds
step : (t : Bool) (n : ℕ) → cond t (n + 1) n ≡ n + bit t
step true n = omega arith
step false n = omega arith

-- the last place is counted by its own test
pub how_many-last : (n : ℕ) (b : ℕ → Bool) → how_many (suc n) b ≡ how_many n b + bit (b n)
unfolding how_many
how_many-last n b = step (b n) (how_many n b)

-- of no places none passes
how_many-zero : (b : ℕ → Bool) → how_many 0 b ≡ 0
unfolding how_many
how_many-zero b = refl

-- the first place, and then the others
pub how_many-first : (n : ℕ) (b : ℕ → Bool) → how_many (suc n) b ≡ bit (b 0) + how_many n (λ i. b (suc i))
how_many-first zero b = omega (arith, how_many-last 0 b, how_many-zero b, how_many-zero (λ i. b (suc i)))
how_many-first (suc n) b =
    omega (arith, how_many-last (suc n) b, how_many-first n b, how_many-last n (λ i. b (suc i)))

-- tests that agree count the same
pub how_many-same : (n : ℕ) (b d : ℕ → Bool) → ((i : ℕ) → i < n → b i ≡ d i) → how_many n b ≡ how_many n d
how_many-same zero b d e = how_many-zero b ∙ sym (how_many-zero d)
how_many-same (suc n) b d e =
    omega (
      arith,
      how_many-last n b,
      how_many-last n d,
      ap bit (e n (omega arith)),
      how_many-same n b d (λ i l. e i (omega arith)),
    )

-- m places pass where those below m do and no others
pub how_many-below : (n m : ℕ) (b : ℕ → Bool) → m ≤ n → ((i : ℕ) → i < m → b i ≡ true)
    → ((i : ℕ) → m ≤ i → i < n → b i ≡ false) → how_many n b ≡ m
how_many-below zero m b h inside out = omega (arith, how_many-zero b)
how_many-below (suc n) m b h inside out =
    ⊎_elim
    (λ l. omega (
      arith,
      how_many-last n b,
      ap bit (out n (omega arith) (omega arith)),
      how_many-below n m b (omega arith) inside (λ i g t. out i g (omega arith)),
    ))
    (λ e. omega (
      arith,
      how_many-last n b,
      ap bit (inside n (omega arith)),
      how_many-below n n b (le_refl n) (λ i l. inside i (omega arith)) (λ i g t. absurd (omega arith)),
    ))
    (below-or-last (suc n) m (omega arith))

-- where each place passes, all are counted
pub how_many-all : (n : ℕ) (b : ℕ → Bool) → ((i : ℕ) → i < n → b i ≡ true) → how_many n b ≡ n
how_many-all n b h = how_many-below n n b (le_refl n) h (λ i g t. absurd (omega arith))

-- a test that adds something holds
one-true : (t : Bool) → 0 < bit t → t ≡ true
one-true true h = refl
one-true false h = absurd (omega arith)

-- a test adds at most 1
one_at_most : (t : Bool) → bit t ≤ 1
one_at_most true = omega arith
one_at_most false = omega arith

-- where all are counted, each passes
pub how_many-each : (n : ℕ) (b : ℕ → Bool) → how_many n b ≡ n → (i : ℕ) → i < n → b i ≡ true
how_many-each zero b e i l = absurd (omega arith)
how_many-each (suc n) b e i l =
    ⊎_elim
    (λ h. how_many-each n b (omega (arith, how_many-last n b, how_many-at-most n b, one_at_most (b n))) i h)
    (λ h. rw h (one-true (b n) (omega (arith, how_many-last n b, how_many-at-most n b))))
    (below-or-last n i (omega arith))

-- a count is the sum of what each test adds
pub how_many-sum : (n : ℕ) (b : ℕ → Bool) → how_many n b ≡ sum n (λ i. bit (b i))
unfolding sum
how_many-sum zero b = how_many-zero b
how_many-sum (suc n) b = omega (arith, how_many-last n b, how_many-sum n b)

-- where some pass, one is found
pub how_many-find : (n : ℕ) (b : ℕ → Bool) → 0 < how_many n b → (i : ℕ) × (i < n) × (b i ≡ true)
how_many-find zero b h = absurd (omega (arith, how_many-zero b))
how_many-find (suc n) b h = go (b n) refl (λ l. how_many-find n b l)
  where
    go : (t : Bool) → b n ≡ t → (0 < how_many n b → (i : ℕ) × (i < n) × (b i ≡ true))
        → (i : ℕ) × (i < suc n) × (b i ≡ true)
    go true e f = (n, omega arith, e)
    go false e f =
        let r = f (omega (arith, how_many-last n b, ap bit e)) in
        (r.0, omega (arith, r.1), r.2)

-- where one passes, some are counted
pub how_many-some : (n i : ℕ) (b : ℕ → Bool) → i < n → b i ≡ true → 0 < how_many n b
how_many-some zero i b l e = absurd (omega arith)
how_many-some (suc n) i b l e =
    ⊎_elim
    (λ h. omega (arith, how_many-last n b, how_many-some n i b h e))
    (λ h. omega (arith, how_many-last n b, ap bit (ap b (sym h) ∙ e)))
    (below-or-last n i (omega arith))

-- a test that leaves place p out
abbrev other : (ℕ → Bool) → ℕ → ℕ → Bool
other b p i = not (eqb i p) && b i

-- leaving out a place that passes leaves one less
pub how_many-others : (n p : ℕ) (b : ℕ → Bool) → p < n → b p ≡ true
    → how_many n b ≡ 1 + how_many n (λ i. not (eqb i p) && b i)
how_many-others zero p b h e = absurd (omega arith)
how_many-others (suc n) p b h e =
    ⊎_elim
    (λ l. omega (
      arith,
      how_many-last n b,
      how_many-last n (other b p),
      ap bit (kept n (λ x. omega arith)),
      how_many-others n p b l e,
    ))
    (λ l. omega (
      arith,
      how_many-last n b,
      how_many-last n (other b p),
      ap bit (ap b (sym l) ∙ e),
      ap bit (left_out n (sym l)),
      how_many-same n b (other b p) (λ i t. sym (kept i (λ x. omega arith))),
    ))
    (below-or-last n p (omega arith))
  where
    kept : (i : ℕ) → (i ≡ p → ⊥) → other b p i ≡ b i
    kept i d = simp (ne_eqb i p d)

    left_out : (i : ℕ) → i ≡ p → other b p i ≡ false
    left_out i d = simp (eq-eqb i p d)

-- where two places pass, at least two are counted
pub how_many-two : (n i j : ℕ) (b : ℕ → Bool) → i < j → j < n → b i ≡ true → b j ≡ true → 2 ≤ how_many n b
how_many-two n i j b l h e d =
    omega (
      arith,
      how_many-others n i b (omega arith) e,
      how_many-some n j (other b i) h (simp (ne_eqb j i (λ x. omega arith), d)),
    )

-- where at least two are counted, another place than p passes
pub how_many-another : (n p : ℕ) (b : ℕ → Bool) → p < n → b p ≡ true → 2 ≤ how_many n b
    → (i : ℕ) × (i < n) × ¬ (i ≡ p) × (b i ≡ true)
how_many-another n p b h e two =
    let f = how_many-find n (other b p) (omega (arith, how_many-others n p b h e)) in
    let t = both (not (eqb f.0 p)) (b f.0) f.2 in
    (f.0, f.1, (λ x. never (sym t.0 ∙ ap not (eq-eqb f.0 p x))), t.1)

-- where no two places pass, one at most is counted
pub how_many-one : (n : ℕ) (b : ℕ → Bool)
    → ((i j : ℕ) → i < n → j < n → b i ≡ true → b j ≡ true → i ≡ j) → how_many n b ≤ 1
how_many-one n b same =
    elim (dec_lt 1 (how_many n b)) [
      | yes two ↦
          let f = how_many-find n b (omega arith) in
          let g = how_many-another n f.0 b f.1 f.2 (omega arith) in
          absurd (g.2 (same g.0 f.0 g.1 f.1 g.3 f.2))
      | no few ↦ omega arith
    ]

-- where what passes one test passes one of two others, no more are counted than by these together
pub how_many-either : (n : ℕ) (b d e : ℕ → Bool)
    → ((i : ℕ) → i < n → b i ≡ true → (d i ≡ true) ⊎ (e i ≡ true)) → how_many n b ≤ how_many n d + how_many n e
how_many-either n b d e either =
    omega (
      arith,
      how_many-sum n b,
      how_many-sum n d,
      how_many-sum n e,
      sum-add n (λ i. bit (d i) + bit (e i)) (λ i. bit (d i)) (λ i. bit (e i)) (λ i l. refl),
      sum-le n (λ i. bit (b i)) (λ i. bit (d i) + bit (e i)) (λ i l. by (b i) refl (either i l)),
    )
  where
    by : {i : ℕ} (t : Bool) → b i ≡ t → (b i ≡ true → (d i ≡ true) ⊎ (e i ≡ true)) → bit t ≤ bit (d i) + bit (e i)
    by true h f = ⊎_elim (λ l. omega (arith, ap bit l)) (λ r. omega (arith, ap bit r)) (f h)
    by false h f = omega arith

-- where every place has a value below k, the counts of these values add up to the places
pub how_many-values : (n k : ℕ) (f : ℕ → ℕ) → ((i : ℕ) → i < n → f i < k)
    → sum k (λ q. how_many n (λ i. eqb (f i) q)) ≡ n
how_many-values zero k f h =
    sum-eq k (λ q. how_many 0 (λ i. eqb (f i) q)) (λ q. 0) (λ q l. how_many-zero (λ i. eqb (f i) q)) ∙ sum-zero k
how_many-values (suc n) k f h =
    omega (
      arith,
      sum-add k (λ q. how_many (suc n) (λ i. eqb (f i) q)) (λ q. how_many n (λ i. eqb (f i) q))
          (λ q. cond (eqb (f n) q) 1 0) (λ q l. how_many-last n (λ i. eqb (f i) q)),
      how_many-values n k f (λ i l. h i (omega arith)),
      sum-only k (f n) (λ q. 1) (h n (omega arith)),
    )

-- ---- a loop that counts

-- i of n places are counted
pub record Counting (n : ℕ) (b : ℕ → Bool) (count i : ℕ) : Type 0 where
  pub within : i ≤ n
  pub is : count ≡ how_many i b
  pub few : count ≤ i

-- before the first place
pub counting-start : (n : ℕ) (b : ℕ → Bool) → Counting n b 0 0
counting-start n b = record { within = omega arith; is = sym (how_many-zero b); few = omega arith }

-- before a place up to which none passes
pub counting-from : (n i : ℕ) (b : ℕ → Bool) → i ≤ n → ((j : ℕ) → j < i → b j ≡ false) → Counting n b 0 i
counting-from n i b h none = record { within = h; is = sym (none-how_many i b none); few = omega arith }

-- one place more
pub counting-step : {n count i : ℕ} {b : ℕ → Bool} → Counting n b count i → i < n → (x : ℕ) → x ≡ bit (b i)
    → Counting n b (count + x) (i + 1)
counting-step {n} {count} {i} {b} t h x e = record {
  within = omega arith;
  is = omega (arith, t.is, how_many-counted i x b e);
  few = omega (arith, t.is, how_many-counted i x b e, how_many-at-most (i + 1) b);
}

-- one place more, where the count itself goes up by 1 if the place passes
pub counting-next : {n count i r : ℕ} {b : ℕ → Bool} → Counting n b count i → i < n → r ≡ cond (b i) (count + 1) count
    → Counting n b r (i + 1)
counting-next {n} {count} {i} {r} {b} t h e = elim (bool (b i)) [
  | inl p ↦ rw (e, p) (counting-step t h 1 (rw p))
  | inr p ↦ rw (e, p, ← add-zero count) (counting-step t h 0 (rw p))
]

-- past the last place
pub counting-done : {n count i : ℕ} {b : ℕ → Bool} → Counting n b count i → n ≤ i → count ≡ how_many n b
counting-done {n} {count} {i} {b} t h =
    let e : i ≡ n = omega (arith, t.within) in
    rw e at t.is
