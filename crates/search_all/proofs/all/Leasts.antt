-- The least packed number, lowered shade by shade, is that of the nearest.
use Prim.Native.Nat.{ℕ, ◌+◌, ◌*◌, ◌≤◌, ◌<◌}
use mathlib.Core.List.{List}
use mathlib.Core.Path.{◌≡◌, refl, sym, ap, ◌∙◌}
use native.Mathlib.Nat.{le_refl}
use native.Mathlib.Omega.{arith}
use lib.Dec.{ltb}
use lib.ListN.{length, get_or, set}
use Rattle.number.specs.{fill, least, lesser_of, lowest}
use Rattle.number.proofs.Fills.{fill-at, fill-again, fill-kept, fill-length, fill_more, fill-same}
use Rattle.number.proofs.Peaks.{lowest-more, lowest-is-least, least-at-most}
use Rattle.number.proofs.Searches.{first_below}
use Rattle.colour.specs.{Point, Within, distance, most_coordinate}
use Rattle.shades.specs.{most_shades, shade_at, pack, packed_nearest, Shades}
use Rattle.shades.proofs.Laying.{to-shade-most}
use Rattle.shades.proofs.Nearest.{packed-only}
use Rattle.search_all.specs.Asking.{looked_at, PointsOnGrid}

-- the greatest number that a place holds: no packed number is as great
abbrev most_place : ℕ
most_place = 4294967295

-- the least packed number of the first q shades; of no shades it is the greatest that a place holds
abbrev least_packed : List ℕ → ℕ → Point → ℕ
least_packed s q c = lowest most_place q (pack s c)

-- of some shades on the grid it is that of the nearest
least-packed-nearest : (s : List ℕ) (k : ℕ) (c : Point) → Shades k s → 0 < k → Within most_coordinate c
    → least_packed s k c ≡ packed_nearest s k c
least-packed-nearest s k c shades some inside =
    lowest-is-least most_place k (pack s c) some
    (λ q l. omega (arith, to-shade-most s c q shades.low inside, shades.few))
    ∙ packed-only s k c some shades.few (least k (pack s c)) _ (first_below ltb k (pack s c) some) refl
    (λ q l. least-at-most k q (pack s c) l)

-- ---- at every place of a block

-- one place more is lowered: v is the lesser of what it holds and the packed number at distance x
pub look-more : (c : ℕ → Point) (p : Point) (q i : ℕ) (d : List ℕ) {e : List ℕ} → e ≡ fill i (looked_at c p q d) d
    → i < length d → (x v : ℕ) → x ≡ distance (c i) p → v ≡ lesser_of (get_or e i 0) (most_shades * x + q)
    → set e i v ≡ fill (i + 1) (looked_at c p q d) d
look-more c p q i d {e} h l x v far lesser =
    let f = looked_at c p q d in
    let kept : get_or e i 0 ≡ get_or d i 0 = ap (λ t. get_or t i 0) h ∙ fill-kept i i f d (le_refl _) in
    rw (lesser, far, kept, h) (fill_more i f d l)

-- the least packed number of the first q shades from point c i
abbrev least_at : List ℕ → (ℕ → Point) → ℕ → ℕ → ℕ
least_at s c q i = least_packed s q (c i)

-- from every place of `start` the first q of k shades are looked at
pub record Looked (s : List ℕ) (c : ℕ → Point) (k : ℕ) (start best : List ℕ) (q : ℕ) : Type 0 where
  pub within : q ≤ k
  pub is : best ≡ fill (length start) (least_at s c q) start

-- a filled list is as long as before
filled-length : (f : ℕ → ℕ) (d : List ℕ) {e : List ℕ} → e ≡ fill (length d) f d → length e ≡ length d
filled-length f d h = ap length h ∙ fill-length (length d) f d

-- as many places as at the start
pub looked-long : {s start best : List ℕ} {c : ℕ → Point} {k q : ℕ} → Looked s c k start best q
    → length best ≡ length start
looked-long {start = start} l = filled-length _ start l.is

-- before the first shade every place holds the greatest number
pub looked-start : {s e : List ℕ} {c : ℕ → Point} {k : ℕ} (d : List ℕ) → e ≡ fill (length d) (λ i. most_place) d
    → Looked s c k e e 0
unfolding lowest
looked-start {s} {e} {c} d h =
    let f : ℕ → ℕ = least_at s c 0 in
    let stays : e ≡ fill (length d) f e =
    h ∙ sym (fill-again (length d) f (λ i. most_place) d) ∙ ap (fill (length d) f) (sym h) in
    record { within = omega arith; is = rw (filled-length _ d h) stays }

-- a look at shade q leaves at each place the least of one shade more
looked-place : {s start best : List ℕ} {c : ℕ → Point} {k q : ℕ} → Looked s c k start best q → (i : ℕ)
    → i < length start → looked_at c (shade_at s q) q best i ≡ least_at s c (q + 1) i
looked-place {s} {start} {best} {c} {k} {q} l i h =
    let x = pack s (c i) q in
    ap (λ t. lesser_of (get_or t i 0) x) l.is
    ∙ ap (λ t. lesser_of t x) (fill-at (length start) i (least_at s c q) start h h)
    ∙ sym (lowest-more most_place q (pack s (c i)))

-- one shade more is looked at
pub looked-step : {s start best x : List ℕ} {c : ℕ → Point} {k q : ℕ} → Looked s c k start best q → q < k
    → x ≡ fill (length best) (looked_at c (shade_at s q) q best) best → Looked s c k start x (q + 1)
looked-step {s} {start} {best} {x} {c} {k} {q} l h e =
    let n = length start in
    let f : ℕ → ℕ = looked_at c (shade_at s q) q best in
    record {
      within = omega arith;
      is = e ∙ ap (λ m. fill m f best) (looked-long l) ∙ ap (fill n f) l.is
          ∙ fill-again n f (least_at s c q) start ∙ fill-same n f _ start (looked-place l);
    }

-- past the last shade every place holds the nearest of its point, if the points are on the grid
pub looked-done : {s start best : List ℕ} {c : ℕ → Point} {k q : ℕ} → Looked s c k start best q → k ≤ q → Shades k s
    → 0 < k → (d : List ℕ) → start ≡ fill (length d) (λ i. most_place) d → PointsOnGrid (length d) c
    → best ≡ fill (length d) (λ i. packed_nearest s k (c i)) d
looked-done {s} {start} {best} {c} {k} {q} l h shades some d e inside =
    let n = length d in
    let f = least_at s c k in
    let z : q ≡ k = omega (arith, l.within) in
    let is : best ≡ fill n f start = rw (z, filled-length _ d e) at l.is in
    is ∙ ap (fill n f) e ∙ fill-again n f (λ i. most_place) d
    ∙ fill-same n f _ d (λ i m. least-packed-nearest s k (c i) shades some (inside i m))
