-- The loop over the entries: what holds at each turn.
use Prim.Native.Nat.{ℕ, ◌+◌, ◌*◌, ◌≤◌, ◌<◌}
use mathlib.Core.List.{List}
use mathlib.Core.Path.{◌≡◌, sym, ap, ◌∙◌}
use native.Mathlib.Omega.{arith}
use lib.ListN.{get_or}
use Rattle.number.specs.{sum}
use Rattle.number.proofs.Sums.{sum_more}
use Rattle.colour.specs.{key_of, red_of, green_of, blue_of, most_key}
use Rattle.colour.proofs.Promises.{key-of-levels}
use Rattle.table_entries.specs.{Tabled}
use Rattle.level_sums.specs.{weighed}
use Rattle.table_sums.specs.Telling.{Two, mix_of, red_sum, green_sum, blue_sum}
use Rattle.table_sums.proofs.Telling.{two-of-none, channel-low}

-- a weight times a key is its products with the levels, as they stand in the first number
key-times : (w key : ℕ) → key ≤ most_key → w * key ≡ key_of (w * red_of key) (w * green_of key) (w * blue_of key)
key-times w key l = ap (λ (k : ℕ). w * k) (sym (key-of-levels key l)) ∙ omega arith

-- a weight times a mix is the mix of the products
mix-times : (w r b : ℕ) → w * mix_of r b ≡ mix_of (w * r) (w * b)
mix-times w r b = omega arith

-- both numbers are those of the sums over the entries before place i
pub record Summing (ks ws : List ℕ) (used first second i : ℕ) : Type 0 where
  pub within : i ≤ used
  pub two : Two (red_sum i ks ws) (green_sum i ks ws) (blue_sum i ks ws) first second

-- none of a table's sums is too large, up to any place
sums-are-two : (ks ws : List ℕ) (used i first second : ℕ) → Tabled used ks ws → i ≤ used
    → first ≡ key_of (red_sum i ks ws) (green_sum i ks ws) (blue_sum i ks ws)
    → second ≡ mix_of (red_sum i ks ws) (blue_sum i ks ws)
    → Two (red_sum i ks ws) (green_sum i ks ws) (blue_sum i ks ws) first second
sums-are-two ks ws used i first second t l e f = record {
  first_is = e;
  second_is = f;
  red_low = channel-low used ks ws t red_of (λ k. omega arith) i l;
  green_low = channel-low used ks ws t green_of (λ k. omega arith) i l;
  blue_low = channel-low used ks ws t blue_of (λ k. omega arith) i l;
}

-- nothing is added
pub summing_start : (ks ws : List ℕ) (used : ℕ) → Summing ks ws used 0 0 0
unfolding sum
summing_start ks ws used = record { within = omega arith; two = two-of-none }

module _ {ks ws : List ℕ} {used first second i : ℕ} (t : Tabled used ks ws) (s : Summing ks ws used first second i)
    (l : i < used) (key : get_or ks i 0 ≤ most_key) where
  -- the entry of place i is added
  pub summing-step : (x y : ℕ) → x ≡ get_or ws i 0 * get_or ks i 0
      → y ≡ get_or ws i 0 * mix_of (red_of (get_or ks i 0)) (blue_of (get_or ks i 0))
      → Summing ks ws used (first + x) (second + y) (i + 1)
  summing-step x y e f =
      let red = sum_more i (weighed red_of ks ws) in
      let green = sum_more i (weighed green_of ks ws) in
      let blue = sum_more i (weighed blue_of ks ws) in
      record {
        within = omega arith;
        two = sums-are-two ks ws used (i + 1) (first + x) (second + y) t (omega arith)
            (rw (e, key-times (get_or ws i 0) (get_or ks i 0) key, red, green, blue) (omega (arith, s.two.first_is)))
            (rw (f, mix-times (get_or ws i 0) (red_of (get_or ks i 0)) (blue_of (get_or ks i 0)), red, blue)
            (omega (arith, s.two.second_is)));
      }

  -- and neither number is too large then
  pub summing-fits : (x y : ℕ) → x ≡ get_or ws i 0 * get_or ks i 0
      → y ≡ get_or ws i 0 * mix_of (red_of (get_or ks i 0)) (blue_of (get_or ks i 0))
      → (first + x ≤ 18446744073709551615) × (second + y ≤ 18446744073709551615)
  summing-fits x y e f =
      let t = (summing-step x y e f).two in (
        omega (arith, t.first_is, t.red_low, t.green_low, t.blue_low),
        omega (arith, t.second_is, t.red_low, t.blue_low),
      )

-- every entry is added
pub summing-done : {ks ws : List ℕ} {used first second i : ℕ} → Summing ks ws used first second i → used ≤ i
    → Two (red_sum used ks ws) (green_sum used ks ws) (blue_sum used ks ws) first second
summing-done {used = used} {i = i} s l = let e : i ≡ used = omega (arith, s.within) in rw e at s.two
