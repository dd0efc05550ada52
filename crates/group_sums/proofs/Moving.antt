-- The sums of the groups where one entry goes from its group to another: what it gives is taken from the one and added
-- to the other.
use Prim.Native.Nat.{ℕ, ◌+◌, ◌-◌, ◌*◌, ◌≤◌, ◌<◌}
use mathlib.Core.List.{List}
use mathlib.Core.Path.{◌≡◌, refl, sym, ◌∙◌}
use native.Mathlib.Decide.{ℕ_discrete}
use native.Mathlib.Omega.{arith}
use lib.ListN.{length, get_or, length-set}
use Rattle.number.specs.{sum}
use Rattle.number.proofs.Sums.{sum-eq, sum-change}
use Rattle.shades.specs.{most_shades}
use Rattle.table_entries.specs.{Tabled}
use Rattle.level_sums.specs.{red_green, blue_pixels, weighed}
use Rattle.level_sums.proofs.Bounds.{red-green-at-most, blue-pixels-at-most}
use Rattle.group_sums.specs.Summing.{given, raised, lowered, Summed}
use Rattle.group_sums.proofs.Bounds.{group-fits}
use Rattle.group_sums.proofs.Summing.{
  placed_first,
  placed-second,
  placed-other-first,
  placed-other-second,
  given-own,
  given-other,
}

-- entry i goes from group m i to another, m' i, and every other entry stays
pub record Goes (m m' : ℕ → ℕ) (i : ℕ) : Type 0 where
  pub other : m i ≡ m' i → ⊥
  pub stay : (j : ℕ) → (j ≡ i → ⊥) → m' j ≡ m j

module _ {m m' : ℕ → ℕ} {n i : ℕ} (g : Goes m m' i) (h : i < n) (f : ℕ → ℕ) where
  -- the sums of any group, before and after
  both_sums : (q : ℕ) → sum n (given m' f q) + given m f q i ≡ sum n (given m f q) + given m' f q i
  both_sums q = sum-change n i (given m' f q) (given m f q) h (λ j d. rw (g.stay j d))

  -- the sum of the group that it leaves
  left-sum : sum n (given m f (m i)) ≡ sum n (given m' f (m i)) + f i
  left-sum =
      omega (
        arith,
        both_sums (m i),
        given-own m f (m i) i refl,
        given-other m' f (m i) i (λ z. g.other (sym z)),
      )

  -- the sum of the group that it joins
  joined-sum : sum n (given m' f (m' i)) ≡ sum n (given m f (m' i)) + f i
  joined-sum = omega (arith, both_sums (m' i), given-own m' f (m' i) i refl, given-other m f (m' i) i g.other)

  -- the sum of every other group
  other-sum : (q : ℕ) → (m i ≡ q → ⊥) → (m' i ≡ q → ⊥) → sum n (given m f q) ≡ sum n (given m' f q)
  other-sum q d e = omega (arith, both_sums q, given-other m f q i d, given-other m' f q i e)

  -- numbers a that are the groups' sums before become those after, c, by way of b: first those of the group that the
  -- entry leaves are lowered, then those of the group that it joins are raised
  given-moved : (a b c : ℕ → ℕ) → ((q : ℕ) → q < most_shades → a q ≡ sum n (given m f q)) → m i < most_shades
      → m' i < most_shades → b (m i) ≡ a (m i) - f i → ((q : ℕ) → (q ≡ m i → ⊥) → b q ≡ a q)
      → c (m' i) ≡ b (m' i) + f i → ((q : ℕ) → (q ≡ m' i → ⊥) → c q ≡ b q) → (q : ℕ) → q < most_shades
      → c q ≡ sum n (given m' f q)
  given-moved a b c sums few few' low stay high keep q l = elim (ℕ_discrete q (m i)) [
    | yes e ↦
        rw e
        (omega (
          arith,
          keep (m i) g.other,
          low,
          sums (m i) few,
          left-sum,
        ))
    | no d ↦ elim (ℕ_discrete q (m' i)) [
      | yes e ↦
          rw e
          (omega (
            arith,
            high,
            stay (m' i) (λ z. g.other (sym z)),
            sums (m' i) few',
            joined-sum,
          ))
      | no e ↦ omega (arith, keep q e, stay q d, sums q l, other-sum q (λ z. d (sym z)) (λ z. e (sym z)))
    ]
  ]

-- the sums follow an entry that goes to another group
pub summed-moved : {m m' : ℕ → ℕ} (ks ws : List ℕ) {n i : ℕ} {t : List ℕ} → Summed m ks ws n t → Goes m m' i → i < n
    → m i < most_shades → m' i < most_shades
    → Summed m' ks ws n
    (raised (lowered t (m i) (weighed red_green ks ws i) (weighed blue_pixels ks ws i)) (m' i)
    (weighed red_green ks ws i)
    (weighed blue_pixels ks ws i))
summed-moved {m} {m'} ks ws {n} {i} {t} s g h few few' =
    let x = weighed red_green ks ws i in
    let y = weighed blue_pixels ks ws i in
    let u = lowered t (m i) x y in
    let v = raised u (m' i) x y in
    let long : length u ≡ 2 * most_shades = simp length-set s.long in
    record {
      long = simp length-set s.long;
      red-green =
          given-moved g h (weighed red_green ks ws) (λ q. get_or t (2 * q) 0) (λ q. get_or u (2 * q) 0)
          (λ q. get_or v (2 * q) 0) s.red-green few few' (placed_first t (m i) _ _ s.long few)
          (placed-other-first t (m i) _ _) (placed_first u (m' i) _ _ long few') (placed-other-first u (m' i) _ _);
      blue-pixels =
          given-moved g h (weighed blue_pixels ks ws) (λ q. get_or t (2 * q + 1) 0) (λ q. get_or u (2 * q + 1) 0)
          (λ q. get_or v (2 * q + 1) 0) s.blue-pixels few few' (placed-second t (m i) _ _ s.long few)
          (placed-other-second t (m i) _ _) (placed-second u (m' i) _ _ long few') (placed-other-second u (m' i) _ _);
    }

-- what the entry gives is in the sums of the group that it leaves
pub leaves-fit : {m m' : ℕ → ℕ} (ks ws : List ℕ) {n i : ℕ} {t : List ℕ} → Summed m ks ws n t → Goes m m' i → i < n
    → m i < most_shades
    → (weighed red_green ks ws i ≤ get_or t (2 * m i) 0) × (weighed blue_pixels ks ws i ≤ get_or t (2 * m i + 1) 0)
leaves-fit {m} ks ws {t = t} s g h few = (
  omega (arith, s.red-green (m _) few, left-sum g h (weighed red_green ks ws)),
  omega (arith, s.blue-pixels (m _) few, left-sum g h (weighed blue_pixels ks ws)),
)

-- and the sums of the group that it joins stay below 2^64
pub joins-fit : {m m' : ℕ → ℕ} {ks ws : List ℕ} {n i : ℕ} {t : List ℕ} → Tabled n ks ws → Summed m ks ws n t
    → Goes m m' i → i < n → m' i < most_shades
    → let u = lowered t (m i) (weighed red_green ks ws i) (weighed blue_pixels ks ws i) in
    (get_or u (2 * m' i) 0 + weighed red_green ks ws i ≤ 18446744073709551615)
    × (get_or u (2 * m' i + 1) 0 + weighed blue_pixels ks ws i ≤ 18446744073709551615)
joins-fit {m} {m'} {ks} {ws} {n} {i} {t} tab s g h few =
    let x = get_or t (2 * m i) 0 - weighed red_green ks ws i in
    let y = get_or t (2 * m i + 1) 0 - weighed blue_pixels ks ws i in (
      omega (
        arith,
        placed-other-first t (m i) x y (m' i) (λ z. g.other (sym z)),
        s.red-green (m' i) few,
        joined-sum g h (weighed red_green ks ws),
        group-fits n ks ws tab red_green red-green-at-most m' (m' i),
      ),
      omega (
        arith,
        placed-other-second t (m i) x y (m' i) (λ z. g.other (sym z)),
        s.blue-pixels (m' i) few,
        joined-sum g h (weighed blue_pixels ks ws),
        group-fits n ks ws tab blue_pixels blue-pixels-at-most m' (m' i),
      ),
    )

-- sums are those of any grouping that is the same on the entries
pub summed_same : (m m' : ℕ → ℕ) (ks ws : List ℕ) (n : ℕ) (t : List ℕ) → ((i : ℕ) → i < n → m i ≡ m' i)
    → Summed m ks ws n t → Summed m' ks ws n t
summed_same m m' ks ws n t e s = record {
  long = s.long;
  red-green = λ q h. s.red-green q h ∙ sum-eq n _ _ (λ i l. rw (e i l));
  blue-pixels = λ q h. s.blue-pixels q h ∙ sum-eq n _ _ (λ i l. rw (e i l));
}
