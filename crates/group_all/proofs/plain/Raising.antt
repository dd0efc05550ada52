-- The turn of a plain grouping: what the search left gives the shade and the cost, and the sums of the shade's group
-- are raised.
use Prim.Native.Nat.{ℕ, ◌+◌, ◌*◌, ◌/◌, ◌%◌, ◌≤◌, ◌<◌}
use mathlib.Core.List.{List}
use mathlib.Core.Path.{◌≡◌, ◌∙◌}
use lib.ListN.{get_or}
use Rattle.colour.specs.{most_pixels, most_distance}
use Rattle.shades.specs.{most_shades, colour_at, packed_nearest}
use Rattle.shades.proofs.Nearest.{packed-found}
use Rattle.method.specs.{colours_of, joins}
use Rattle.level_sums.specs.{red_green, blue_pixels, weighed}
use Rattle.group_sums.specs.{raised, Summed}
use Rattle.group_sums.proofs.Bounds.{raises-fit}
use Rattle.group_sums.proofs.Summing.{summed-more}
use Rattle.group_join.proofs.Turns.{Turned, Finds, finds-of, turned-some, turned-low, number-below}

module _ {used : ℕ} {ks ws s : List ℕ} {k : ℕ} {works : ℕ → ℕ} {before members : List ℕ} {total distances i : ℕ}
    (x : Turned used ks ws s k works before members total distances i) (l : i < used) where
  -- weight and distance are those of a table
  pub raised-low : (best : ℕ) → best ≡ packed_nearest s k (colour_at ks i)
      → (get_or ws i 0 ≤ most_pixels) × (best / most_shades ≤ most_distance)
  raised-low best e =
      turned-low x l _ (packed-found s k (colour_at ks i) (turned-some x l) x.fitted.shades.few best e).1

  -- shade and cost are read from distance and number in one
  pub raised-finds : (best number cost : ℕ) → best ≡ packed_nearest s k (colour_at ks i) → number ≡ best % most_shades
      → cost ≡ get_or ws i 0 * (best / most_shades) → Finds ks ws s k i number cost
  raised-finds best number cost e n c =
      let f = packed-found s k (colour_at ks i) (turned-some x l) x.fitted.shades.few best e in
      finds-of (n ∙ f.0) f.1 c

  module _ {t : List ℕ} (sums : Summed (joins (colours_of used ks ws) k s) ks ws i t) {number cost first second : ℕ}
      (g : Finds ks ws s k i number cost) (p : first ≡ weighed red_green ks ws i)
      (q : second ≡ weighed blue_pixels ks ws i) where
    -- the sums of the entry's group are there and stay below 2^64
    pub raised-fit : (number < most_shades) × (get_or t (2 * number) 0 + first ≤ 18446744073709551615)
        × (get_or t (2 * number + 1) 0 + second ≤ 18446744073709551615)
    raised-fit =
        let m = joins (colours_of used ks ws) k s in
        let f = raises-fit used ks ws x.fitted.table m i l (number-below x l) sums in
        rw (g.number_is, p, q) (number-below x l, f.0, f.1)

    -- and are raised
    pub raised-step : (after : List ℕ) → after ≡ raised t number first second
        → Summed (joins (colours_of used ks ws) k s) ks ws (i + 1) after
    raised-step after r = rw (r, g.number_is, p, q) (summed-more _ ks ws i t sums (number-below x l))
