-- Sums that stand two in one number: taken apart, they are the pixel count and the three sums of levels.
use Prim.Native.Nat.{ℕ, zero, suc, ◌+◌, ◌*◌, ◌/◌, ◌%◌, ◌≤◌, ◌<◌}
use mathlib.Core.List.{List}
use mathlib.Core.Path.{◌≡◌, refl, sym, ◌∙◌}
use native.Mathlib.Nat.{le_trans}
use native.Mathlib.Omega.{arith}
use lib.Dec.{eqb}
use lib.ListN.{get_or}
use Rattle.number.specs.{sum}
use Rattle.number.proofs.Sums.{sum-add, sum-eq, sum-le, sum-mul, sum-weighed}
use Rattle.colour.specs.{most_level, most_pixels, red_of, green_of, blue_of}
use Rattle.table_entries.specs.{Tabled}
use Rattle.level_sums.specs.{red_green, blue_pixels, weighed}
use Rattle.shades.specs.{most_shades, axis}
use Rattle.method.specs.{Colours, level_colours, pixels_in, sums_of, group_of}
use Rattle.method.proofs.Totals.{weight-times}
use Rattle.group_sums.specs.Reading.{group_pixels, level_sum, Measured}
use Rattle.group_sums.specs.Summing.{given, Summed}
use Rattle.group_sums.proofs.Bounds.{given-at-most}

-- ---- of weighted keys

-- two numbers of 64 bits hold the pixel count and the sums of levels of the colours
record Parts (C : Colours) (first second : ℕ) : Type 0 where
  pixels : second % 4294967296 ≡ pixels_in C
  red : first / 4294967296 ≡ (sums_of C).r
  green : first % 4294967296 ≡ (sums_of C).g
  blue : second / 4294967296 ≡ (sums_of C).b

module _ (n : ℕ) (w key : ℕ → ℕ) where
  -- the weighted sum of a level
  abbrev level : (ℕ → ℕ) → ℕ
  level f = sum n (λ i. w i * f (key i))

  -- it is at most 255 for each pixel
  level-low : (f : ℕ → ℕ) → ((k : ℕ) → f k ≤ most_level) → level f ≤ most_level * sum n w
  level-low f low = sum-weighed n most_level w (λ i. f (key i)) (λ i. low (key i))

  -- the sum of two levels in one is their sums in one
  level-pair : (f g : ℕ → ℕ) → sum n (λ i. w i * (4294967296 * f (key i) + g (key i))) ≡ 4294967296 * level f + level g
  level-pair f g =
      sum-add n _ (λ i. 4294967296 * (w i * f (key i))) (λ i. w i * g (key i)) (λ i l. omega arith)
      ∙ (let e = sum-mul n 4294967296 _ (λ i. w i * f (key i)) (λ i l. refl) in rw e)

  -- the colours of n keys in whole levels, weighted
  abbrev keyed : Colours
  keyed = record {
    n = n;
    w = w;
    c = λ i. record { r = red_of (key i); g = green_of (key i); b = blue_of (key i) };
  }

  -- the sums of two levels in one, and of the third and 1 in one, are the parts of the colours
  parts : (first second : ℕ) → sum n w ≤ most_pixels → first ≡ sum n (λ i. w i * red_green (key i))
      → second ≡ sum n (λ i. w i * blue_pixels (key i)) → Parts keyed first second
  parts first second few e f =
      let pair = level-pair red_of green_of in
      let last = level-pair blue_of (λ k. 1) in
      let ones : level (λ k. 1) ≡ sum n w = sum-eq n _ w (λ i l. omega arith) in
      let under = level-low green_of (λ k. omega arith) in
      record { pixels = omega arith; red = omega arith; green = omega arith; blue = omega arith }

  -- each sum of levels is at most 255 for each pixel
  parts_low : (e : ℕ) → axis e (sums_of keyed) ≤ most_level * sum n w
  parts_low zero = level-low red_of (λ k. omega arith)
  parts_low (suc zero) = level-low green_of (λ k. omega arith)
  parts_low (suc (suc e)) = level-low blue_of (λ k. omega arith)

-- ---- of a table's groups

module _ (used : ℕ) (ks ws : List ℕ) (t : Tabled used ks ws)
    (m : ℕ → ℕ) (sums : List ℕ) (h : Summed m ks ws used sums) where
  -- the group of shade q, in whole levels
  abbrev group : ℕ → Colours
  group q = group_of (level_colours used ks ws) m q

  -- a group has no more pixels than the table
  group-few : (q : ℕ) → pixels_in (group q) ≤ sum used (λ i. get_or ws i 0)
  group-few q = sum-le used _ (λ i. get_or ws i 0) (λ i l. given-at-most (eqb (m i) q) (get_or ws i 0))

  -- what the entries give to a group, by the weights in the group
  group-given : (f : ℕ → ℕ) (q : ℕ)
      → sum used (given m (weighed f ks ws) q) ≡ sum used (λ i. (group q).w i * f (get_or ks i 0))
  group-given f q = sum-eq used _ _ (λ i l. sym (weight-times (eqb (m i) q) (get_or ws i 0) (f (get_or ks i 0))))

  -- the two sums of a group, taken apart
  group-parts : (q : ℕ) → q < most_shades → Parts (group q) (get_or sums (2 * q) 0) (get_or sums (2 * q + 1) 0)
  group-parts q l =
      parts used (group q).w (λ i. get_or ks i 0) _ _ (le_trans (group-few q) t.pixels)
      (h.red-green q l ∙ group-given red_green q) (h.blue-pixels q l ∙ group-given blue_pixels q)

  -- the pixel count that is read is the group's
  pub pixels_are : (q : ℕ) → q < most_shades → group_pixels sums q ≡ pixels_in (group_of (level_colours used ks ws) m q)
  pixels_are q l = (group-parts q l).pixels

  -- and so is each sum of levels
  pub levels-are : (e q : ℕ) → q < most_shades
      → level_sum sums e q ≡ axis e (sums_of (group_of (level_colours used ks ws) m q))
  levels-are zero q l = (group-parts q l).red
  levels-are (suc zero) q l = (group-parts q l).green
  levels-are (suc (suc e)) q l = (group-parts q l).blue

  -- the sums of a grouping are those of a table's groups
  pub measured : Measured sums
  measured = record {
    few = λ q l. rw (pixels_are q l) (le_trans (group-few q) t.pixels);
    low = λ e q l. rw (levels-are e q l, pixels_are q l) (parts_low used (group q).w (λ i. get_or ks i 0) e);
  }

-- ---- a mean

-- what is asked for the mean of a group with a pixel: how many it has, and how large its sum of levels is
pub mean-asked : {t : List ℕ} → Measured t → (e q : ℕ) → q < most_shades → {pixels levels : ℕ}
    → pixels ≡ group_pixels t q → levels ≡ level_sum t e q → ¬ (pixels ≡ 0)
    → (0 < pixels) × (pixels ≤ most_pixels) × (levels ≤ most_level * pixels)
mean-asked m e q l is sum_is_lem some = (
  omega (arith, some),
  omega (arith, is, m.few q l),
  omega (arith, is, sum_is_lem, m.low e q l),
)
