-- A total is the sum of what the groups cost, and no other grouping has a smaller one.
use mathlib.Core.Bool.{Bool, true, false, cond}
use mathlib.Core.List.{List}
use mathlib.Core.Path.{◌≡◌, refl, sym, ap, ◌∙◌}
use Prim.Native.Nat.{ℕ, ◌*◌, ◌≤◌, ◌<◌}
use native.Mathlib.Nat.{mul-le-mul_left}
use native.Mathlib.Omega.{arith}
use lib.Dec.{eqb}
use Rattle.number.specs.{sum}
use Rattle.number.proofs.Sums.{sum-eq, sum-le, sum-swap, sum-only}
use Rattle.colour.specs.{Point, distance}
use Rattle.shades.specs.{to_shade, nearest_shade}
use Rattle.shades.proofs.Nearest.{nearest-least}
use Rattle.method.specs.Colouring.{Colours, pixels_in, cost_at, group_of}

-- a weight that counts or not, times a number
pub weight-times : (t : Bool) (w d : ℕ) → cond t w 0 * d ≡ cond t (w * d) 0
weight-times true w d = refl
weight-times false w d = omega arith

-- where each colour's member is below k, the total is the sum of what the k groups cost
pub total-by-groups : (C : Colours) (k : ℕ) (m : ℕ → ℕ) (s : ℕ → Point) → ((i : ℕ) → i < C.n → m i < k)
    → sum C.n (λ i. C.w i * distance (C.c i) (s (m i))) ≡ sum k (λ q. cost_at (group_of C m q) (s q))
total-by-groups C k m s below =
    sum-eq C.n _ (λ i. sum k (λ q. cond (eqb (m i) q) (C.w i * distance (C.c i) (s q)) 0))
    (λ i l. sym (sum-only k (m i) (λ q. C.w i * distance (C.c i) (s q)) (below i l)))
    ∙ sum-swap C.n k (λ i q. cond (eqb (m i) q) (C.w i * distance (C.c i) (s q)) 0)
    ∙ sum-eq k _ (λ q. cost_at (group_of C m q) (s q))
    (λ q g. sum-eq C.n _ (λ i. cond (eqb (m i) q) (C.w i) 0 * distance (C.c i) (s q))
    (λ i l. sym (weight-times (eqb (m i) q) (C.w i) (distance (C.c i) (s q)))))

-- and the groups' pixels are all pixels: every colour joins one group
pub pixels-by-groups : (C : Colours) (k : ℕ) (m : ℕ → ℕ) → ((i : ℕ) → i < C.n → m i < k)
    → pixels_in C ≡ sum k (λ q. pixels_in (group_of C m q))
pixels-by-groups C k m below =
    sum-eq C.n C.w (λ i. sum k (λ q. cond (eqb (m i) q) (C.w i) 0))
    (λ i l. sym (sum-only k (m i) (λ q. C.w i) (below i l)))
    ∙ sum-swap C.n k (λ i q. cond (eqb (m i) q) (C.w i) 0)

-- groups by members that agree weigh the same, whatever is counted
pub group-sum-same : (C : Colours) (m l : ℕ → ℕ) (q : ℕ) (f : ℕ → ℕ) → ((i : ℕ) → i < C.n → m i ≡ l i)
    → sum C.n (λ i. (group_of C m q).w i * f i) ≡ sum C.n (λ i. (group_of C l q).w i * f i)
group-sum-same C m l q f same =
    sum-eq C.n _ _ (λ i h. ap (λ t. cond (eqb t q) (C.w i) 0 * f i) (same i h))

-- and have as many pixels
pub group-pixels-same : (C : Colours) (m l : ℕ → ℕ) (q : ℕ) → ((i : ℕ) → i < C.n → m i ≡ l i)
    → pixels_in (group_of C m q) ≡ pixels_in (group_of C l q)
group-pixels-same C m l q same = sum-eq C.n _ _ (λ i h. ap (λ t. cond (eqb t q) (C.w i) 0) (same i h))

-- no grouping into k shades has a smaller total than that by the nearest
pub nearest-total-least : (C : Colours) (k : ℕ) (s : List ℕ) (m : ℕ → ℕ) → ((i : ℕ) → i < C.n → m i < k)
    → sum C.n (λ i. C.w i * to_shade s (C.c i) (nearest_shade s k (C.c i)))
    ≤ sum C.n (λ i. C.w i * to_shade s (C.c i) (m i))
nearest-total-least C k s m below =
    sum-le C.n _ _ (λ i l. mul-le-mul_left (C.w i) (nearest-least s k (C.c i) (m i) (below i l)))
