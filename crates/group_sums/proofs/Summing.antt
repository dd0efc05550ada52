-- The sums of the groups: over no entry all are 0, and an entry more raises those of its group.
use Prim.Native.Nat.{ℕ, ◌+◌, ◌*◌, ◌<◌}
use mathlib.Core.Bool.{cond}
use mathlib.Core.List.{List}
use mathlib.Core.Path.{◌≡◌, refl, sym, ap, ◌∙◌}
use native.Mathlib.Decide.{ℕ_discrete}
use native.Mathlib.Omega.{arith}
use lib.ListN.{length, get_or, set, length-set, replicate, get_or-replicate}
use lib.Seq.{get_or-set_same, get_or-set_other}
use borrow.Author.Tests.{eq-eqb, ne_eqb}
use Rattle.number.specs.{sum}
use Rattle.number.proofs.Sums.{sum_more}
use Rattle.level_sums.specs.{red_green, blue_pixels, weighed}
use Rattle.shades.specs.{most_shades}
use Rattle.group_sums.specs.Summing.{given, placed, raised, Summed}

-- over no entry every sum is 0
pub summed-none : (m : ℕ → ℕ) (ks ws : List ℕ) → Summed m ks ws 0 (replicate 128 0)
unfolding sum
summed-none m ks ws = record {
  long = refl;
  red-green = λ q h. get_or-replicate 128 (2 * q) 0 0 (omega arith);
  blue-pixels = λ q h. get_or-replicate 128 (2 * q + 1) 0 0 (omega arith);
}

-- ---- two places of the sums

module _ (t : List ℕ) (p x y : ℕ) where
  -- the first sum of the group is x
  pub placed_first : length t ≡ 2 * most_shades → p < most_shades → get_or (placed t p x y) (2 * p) 0 ≡ x
  placed_first long few =
      get_or-set_other (set t (2 * p) x) (2 * p + 1) (2 * p) y 0 (λ z. omega arith)
      ∙ get_or-set_same t (2 * p) x 0 (omega arith)

  -- the second sum of the group is y
  pub placed-second : length t ≡ 2 * most_shades → p < most_shades → get_or (placed t p x y) (2 * p + 1) 0 ≡ y
  placed-second long few = get_or-set_same (set t (2 * p) x) (2 * p + 1) y 0 (simp length-set (omega arith))

  -- every other place stays
  placed-other : (n : ℕ) → (n ≡ 2 * p → ⊥) → (n ≡ 2 * p + 1 → ⊥) → get_or (placed t p x y) n 0 ≡ get_or t n 0
  placed-other n d e = get_or-set_other (set t (2 * p) x) (2 * p + 1) n y 0 e ∙ get_or-set_other t (2 * p) n x 0 d

  -- the first sum of every other group stays
  pub placed-other-first : (q : ℕ) → (q ≡ p → ⊥) → get_or (placed t p x y) (2 * q) 0 ≡ get_or t (2 * q) 0
  placed-other-first q d = placed-other (2 * q) (λ z. d (omega arith)) (λ z. omega arith)

  -- and so does the second
  pub placed-other-second : (q : ℕ) → (q ≡ p → ⊥) → get_or (placed t p x y) (2 * q + 1) 0 ≡ get_or t (2 * q + 1) 0
  placed-other-second q d = placed-other (2 * q + 1) (λ z. omega arith) (λ z. d (omega arith))

-- ---- what an entry gives

-- an entry gives all it has to its own group
pub given-own : (m f : ℕ → ℕ) (q i : ℕ) → m i ≡ q → given m f q i ≡ f i
given-own m f q i e = ap (λ b. cond b (f i) 0) (eq-eqb (m i) q e)

-- and nothing to another
pub given-other : (m f : ℕ → ℕ) (q i : ℕ) → (m i ≡ q → ⊥) → given m f q i ≡ 0
given-other m f q i d = ap (λ b. cond b (f i) 0) (ne_eqb (m i) q d)

-- ---- one entry more

-- numbers a that are the groups' sums over i entries become those over one more, where that of the entry's group is
-- raised by what the entry gives and the others stay
given-more : (m f a b : ℕ → ℕ) (i : ℕ) → ((q : ℕ) → q < most_shades → a q ≡ sum i (given m f q))
    → b (m i) ≡ a (m i) + f i → ((q : ℕ) → (q ≡ m i → ⊥) → b q ≡ a q)
    → (q : ℕ) → q < most_shades → b q ≡ sum (i + 1) (given m f q)
given-more m f a b i sums mine others q h = elim (ℕ_discrete q (m i)) [
  | yes e ↦
      rw e (omega (arith, mine, sums (m i) (rw e at h), sum_more i (given m f (m i)), given-own m f (m i) i refl))
  | no d ↦ omega (arith, others q d, sums q h, sum_more i (given m f q), given-other m f q i (λ z. d (sym z)))
]

-- entry i raises the sums of its group
pub summed-more : (m : ℕ → ℕ) (ks ws : List ℕ) (i : ℕ) (t : List ℕ) → Summed m ks ws i t → m i < most_shades
    → Summed m ks ws (i + 1) (raised t (m i) (weighed red_green ks ws i) (weighed blue_pixels ks ws i))
summed-more m ks ws i t s few =
    let x = weighed red_green ks ws i in
    let y = weighed blue_pixels ks ws i in
    let u = raised t (m i) x y in
    record {
      long = simp length-set s.long;
      red-green =
          given-more m (weighed red_green ks ws) (λ q. get_or t (2 * q) 0) (λ q. get_or u (2 * q) 0) i s.red-green
          (placed_first t (m i) _ _ s.long few) (placed-other-first t (m i) _ _);
      blue-pixels =
          given-more m (weighed blue_pixels ks ws) (λ q. get_or t (2 * q + 1) 0) (λ q. get_or u (2 * q + 1) 0) i
          s.blue-pixels (placed-second t (m i) _ _ s.long few) (placed-other-second t (m i) _ _);
    }
