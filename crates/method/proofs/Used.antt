-- Colours that agree on their places have the same rounds and the same beginning of a run: what a slice has past the
-- used entries is not read. By any rule that goes by coordinates, and so reads of a group no more than its sums.
use Prim.Native.Nat.{ℕ, zero, suc, ◌*◌, ◌<◌}
use mathlib.Core.Bool.{cond, not}
use mathlib.Core.List.{List, ◌++◌}
use mathlib.Core.Path.{◌≡◌, refl, ap, ap₂, fun_ext, ◌∙◌}
use lib.Dec.{ltb, eqb}
use lib.ListN.{get_or, replicate}
use Rattle.number.specs.{sum, how_many, fill, most}
use Rattle.number.proofs.Fills.{fill-same}
use Rattle.number.proofs.Tallies.{how_many-same}
use Rattle.number.proofs.Searches.{first-same, first_below}
use Rattle.number.proofs.Sums.{sum-eq}
use Rattle.colour.specs.{Point}
use Rattle.shades.specs.{most_coordinates, shade_at, laid, same_place, to_shade, nearest_shade, worked}
use Rattle.method.specs.Colouring.{Colours, pixels_in, sums_of, mean_of}
use Rattle.method.specs.Rules.{Rule, Move, Goes}
use Rattle.method.specs.Rounding.{
  State,
  state_of,
  group_in,
  total_of,
  short_distances,
  moved_to,
  moved_of,
  step,
  after,
  quiet,
  final_of,
}
use Rattle.method.specs.Starting.{Base, remote, unlike, flat, listed, next_shade, starts_from, over}
use Rattle.method.specs.Running.{begin_from, begin}
use Rattle.method.proofs.Rules.{goes-alike}

module _ (n : ℕ) (w w' : ℕ → ℕ) (c c' : ℕ → Point) (weights : (i : ℕ) → i < n → w i ≡ w' i)
    (places : (i : ℕ) → i < n → c i ≡ c' i) where
  -- the colours by the first weights and places
  abbrev C : Colours
  C = record { n = n; w = w; c = c }

  -- and by the others
  abbrev D : Colours
  D = record { n = n; w = w'; c = c' }

  -- whatever is added up over the places comes to the same
  sum_alike : (f : ℕ → Point → ℕ → ℕ) → sum n (λ i. f i (c i) (w i)) ≡ sum n (λ i. f i (c' i) (w' i))
  sum_alike f = sum-eq n _ _ (λ i l. ap₂ (f i) (places i l) (weights i l))

  -- ---- a round

  module _ (k : ℕ) (a : State) where
    -- the total
    pub total-alike : total_of C k a ≡ total_of D k a
    total-alike = sum_alike (λ i p v. v * to_shade a.coordinates p (nearest_shade a.coordinates k p))

    -- the distances that a shortened round works out
    pub distances-alike : short_distances C k a ≡ short_distances D k a
    distances-alike = sum_alike (λ i p v. worked a.coordinates k p (get_or a.members i 0))

    -- the members against the shades
    pub final-alike : final_of C a ≡ final_of D a
    final-alike = sum_alike (λ i p v. v * to_shade a.coordinates p (get_or a.members i 0))

    -- a group's weights times a coordinate
    group-alike : (q : ℕ) (f : Point → ℕ)
        → sum n (λ i. (group_in C k a q).w i * f (c i)) ≡ sum n (λ i. (group_in D k a q).w i * f (c' i))
    group-alike q f = sum_alike (λ i p v. cond (eqb (nearest_shade a.coordinates k p) q) v 0 * f p)

    -- its pixels
    pixels-alike : (q : ℕ) → pixels_in (group_in C k a q) ≡ pixels_in (group_in D k a q)
    pixels-alike q = sum_alike (λ i p v. cond (eqb (nearest_shade a.coordinates k p) q) v 0)

    -- its sums
    sums-alike : (q : ℕ) → sums_of (group_in C k a q) ≡ sums_of (group_in D k a q)
    sums-alike q = rw (group-alike q (λ p. p.r), group-alike q (λ p. p.g), group-alike q (λ p. p.b))

  -- ---- rounds of a rule

  module _ {rule : Rule} {move : Move} (by : Goes rule move) where
    module _ (k : ℕ) (a : State) where
      -- where the shades go
      moved-to-alike : moved_to rule C k a ≡ moved_to rule D k a
      moved-to-alike =
          fun_ext (λ q. goes-alike rule move by q (group_in C k a q) (group_in D k a q) (shade_at a.coordinates q)
          (pixels-alike k a q) (sums-alike k a q))

      -- how many move
      moved-alike : moved_of rule C k a ≡ moved_of rule D k a
      moved-alike =
          ap (λ (f : ℕ → Point). how_many k (λ q. not (same_place (f q) (shade_at a.coordinates q)))) moved-to-alike

      -- what the round leaves
      step-alike : step rule C k a ≡ step rule D k a
      step-alike =
          ap₂ state_of (ap (λ (f : ℕ → Point). laid k f a.coordinates) moved-to-alike)
          (fill-same n _ _ a.members (λ i l. ap (nearest_shade a.coordinates k) (places i l)))

    -- what r rounds leave
    pub after-alike : (k : ℕ) (a : State) (r : ℕ) → after rule C k a r ≡ after rule D k a r
    unfolding after
    after-alike k a zero = refl
    after-alike k a (suc r) = ap (step rule C k) (after-alike k a r) ∙ step-alike k (after rule D k a r)

    -- which rounds are quiet
    pub quiet-alike : (k : ℕ) (a : State) → quiet rule C k a ≡ quiet rule D k a
    quiet-alike k a =
        fun_ext (λ r. ap (λ x. eqb x 0)
        (ap (moved_of rule C k) (after-alike k a r) ∙ moved-alike k (after rule D k a r)))

  -- ---- where a run begins

  -- the table's mean
  whole-alike : mean_of C ≡ mean_of D
  whole-alike =
      rw (
        sum_alike (λ i p v. v),
        sum_alike (λ i p v. v * p.r),
        sum_alike (λ i p v. v * p.g),
        sum_alike (λ i p v. v * p.b),
      )

  -- as many colours are unlike some shades
  pub unlike-alike : (s : List ℕ) (k : ℕ) → unlike n c s k ≡ unlike n c' s k
  unlike-alike s k = how_many-same n _ _ (λ i l. ap (λ p. ltb 0 (remote s k p)) (places i l))

  module _ (some : 0 < n) where
    -- the next shade
    next-alike : (B : Base) (k : ℕ) (s : List ℕ) → next_shade B n c k s ≡ next_shade B n c' k s
    next-alike B k s =
        ap (cond (ltb k B.given) (B.at k))
        (places (most n (λ i. remote s k (c i))) (first_below (λ x y. ltb y x) n _ some)
        ∙ ap c' (first-same (λ x y. ltb y x) n _ _ (λ i l. ap (remote s k) (places i l))))

    -- the starts
    starts-alike : (B : Base) (k : ℕ) → starts_from B n c k ≡ starts_from B n c' k
    unfolding starts_from
    starts-alike B zero = refl
    starts-alike B (suc k) =
        ap₂ (λ (l : List ℕ) (p : Point). l ++ flat p) (starts-alike B k)
        (ap (next_shade B n c k) (starts-alike B k) ∙ next-alike B k (starts_from B n c' k))

    -- and the state in which it begins, from given shades
    pub begin-from-alike : (B : Base) (k : ℕ) (members : List ℕ) → begin_from B C k members ≡ begin_from B D k members
    begin-from-alike B k members =
        ap (λ l. state_of (over l (replicate most_coordinates 0)) (fill n (λ i. 0) members)) (starts-alike B k)

    -- and from the table's mean
    pub begin-alike : (k : ℕ) (members : List ℕ) → begin C k members ≡ begin D k members
    begin-alike k members =
        ap (λ p. begin_from (listed (flat p)) C k members) whole-alike
        ∙ begin-from-alike (listed (flat (mean_of D))) k members
