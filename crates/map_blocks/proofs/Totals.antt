-- The errors of a strip: the channels together, two strips joined, and the most that they are.
use Prim.Native.Nat.{ℕ, ◌+◌, ◌*◌, ◌≤◌, ◌<◌}
use mathlib.Core.List.{List, ◌++◌}
use mathlib.Core.Path.{◌≡◌, refl, ap, ap₂, ◌∙◌}
use native.Mathlib.Omega.{arith}
use lib.ListN.{length}
use Rattle.number.specs.{sq}
use Rattle.number.proofs.Sums.{sum-add, sum-eq, sum_bound, sum-parts}
use Rattle.colour.specs.{Point, Bytes, distance, most_level}
use Rattle.colour.proofs.Distances.{distance-within}
use Rattle.shades.specs.{nearest_shade}
use Rattle.map_errors.specs.{pixel_at, miss_on, plus_errors}
use Rattle.map_blocks.specs.Meaning.{entry_count, entry_at, entry_for, errors_of, error_of}
use Rattle.map_errors.proofs.Misses.{miss-most, misses-same, misses-parts}
use Rattle.map_errors.proofs.Pixels.{pixel-within, pixel-first, pixel-second}

-- the channels together are the error
pub channels-add : (palette strip : List ℕ) (n : ℕ)
    → (errors_of palette strip n).red + (errors_of palette strip n).green + (errors_of palette strip n).blue
    ≡ error_of palette strip n
unfolding distance
channels-add palette strip n =
    let f : (Point → ℕ) → ℕ → ℕ =
    λ x i. sq (x (pixel_at strip i)) (x (entry_at palette (entry_for palette strip i))) in
    let two : ℕ → ℕ = λ i. f (λ p. p.r) i + f (λ p. p.g) i in
    omega (
      arith,
      sum-add n two (f (λ p. p.r)) (f (λ p. p.g)) (λ i l. refl),
      sum-add n (λ i. two i + f (λ p. p.b) i) two (f (λ p. p.b)) (λ i l. refl),
    )

-- ---- two strips joined, the first of n pixels

-- how far a pixel is from its nearest entry
abbrev far_off : List ℕ → Point → ℕ
far_off palette c = distance c (entry_at palette (nearest_shade palette (entry_count palette) c))

module _ (palette s t : List ℕ) (n : ℕ) (long : length s ≡ 3 * n) where
  -- a pixel of the first strip gets the entry it had
  pub entry_first : (i : ℕ) → i < n → entry_for palette (s ++ t) i ≡ entry_for palette s i
  entry_first i l = ap (nearest_shade palette (entry_count palette)) (pixel-first s t n long i l)

  -- and so does one of the second
  pub entry-second : (i : ℕ) → entry_for palette (s ++ t) (n + i) ≡ entry_for palette t i
  entry-second i = ap (nearest_shade palette (entry_count palette)) (pixel-second s t n long i)

  -- the error is that of the two
  pub error-joined : (m : ℕ) → error_of palette (s ++ t) (n + m) ≡ error_of palette s n + error_of palette t m
  error-joined m =
      sum-parts n m _
      ∙ ap₂ ◌+◌ (sum-eq n _ _ (λ i l. ap (far_off palette) (pixel-first s t n long i l)))
      (sum-eq m _ _ (λ i l. ap (far_off palette) (pixel-second s t n long i)))

  -- and so are the errors of the channels
  pub errors-joined : (m : ℕ)
      → errors_of palette (s ++ t) (n + m) ≡ plus_errors (errors_of palette s n) (errors_of palette t m)
  errors-joined m =
      let c = pixel_at (s ++ t) in
      let f = entry_for palette (s ++ t) in
      misses-parts n m c palette f
      ∙ ap₂ plus_errors
      (misses-same n c (pixel_at s) palette palette f (entry_for palette s) (pixel-first s t n long)
      (λ i l. ap (entry_at palette) (entry_first i l)))
      (misses-same m (λ i. c (n + i)) (pixel_at t) palette palette (λ i. f (n + i)) (entry_for palette t)
      (λ i l. pixel-second s t n long i) (λ i l. ap (entry_at palette) (entry-second i)))

-- ---- the most that they are

module _ (palette strip : List ℕ) (n : ℕ) (colours : Bytes palette) (bytes : Bytes strip) where
  -- the error of n pixels is at most n times three squares of 255
  pub error-most : error_of palette strip n ≤ 3 * (most_level * most_level) * n
  error-most =
      omega (
        arith,
        sum_bound n 195075 (λ i. far_off palette (pixel_at strip i)) (λ i l.
            distance-within most_level _ _ (pixel-within strip i bytes) (pixel-within palette _ colours)),
      )

  -- on one channel it is at most n such squares
  channel-most : (e : ℕ) → miss_on e (pixel_at strip) palette (entry_for palette strip) n ≤ most_level * most_level * n
  channel-most e =
      omega (
        arith,
        miss-most most_level (pixel_at strip) palette (entry_for palette strip) (λ q. pixel-within palette q colours) e
            n
            (λ i l. pixel-within strip i bytes),
      )

  -- and so on each
  pub errors-most : ((errors_of palette strip n).red ≤ most_level * most_level * n)
      × ((errors_of palette strip n).green ≤ most_level * most_level * n)
      × ((errors_of palette strip n).blue ≤ most_level * most_level * n)
  errors-most = (channel-most 0, channel-most 1, channel-most 2)
