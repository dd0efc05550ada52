-- Two numbers tell three sums: 65536 times the second less the first is 1099511627775 B - 256 G, which tells blue and
-- green, as 256 G is below 1099511627775; then the second tells red.
use Prim.Native.Nat.{ℕ, ◌+◌, ◌*◌, ◌≤◌}
use mathlib.Core.List.{List}
use mathlib.Core.Path.{◌≡◌, refl}
use native.Mathlib.Omega.{arith}
use lib.ListN.{get_or}
use Rattle.number.specs.{sum}
use Rattle.number.proofs.Sums.{sum-weighed, sum-part}
use Rattle.colour.specs.{most_level, most_sum}
use Rattle.table_entries.specs.{Tabled}
use Rattle.level_sums.specs.{weighed}
use Rattle.table_sums.specs.Telling.{Two}

-- no entries have no sums, and give neither number anything
pub two-of-none : Two 0 0 0 0 0
two-of-none = record {
  first_is = refl;
  second_is = refl;
  red_low = omega arith;
  green_low = omega arith;
  blue_low = omega arith;
}

-- no other three sums have both numbers
pub two-only : {R G B r g b first second : ℕ} → Two R G B first second → Two r g b first second
    → (R ≡ r) × (G ≡ g) × (B ≡ b)
two-only {R} {G} {B} {r} {g} {b} s t =
    let e : 1099511627775 * B + 256 * g ≡ 1099511627775 * b + 256 * G
    = omega (arith, s.first_is, s.second_is, t.first_is, t.second_is) in
    let blue : B ≡ b = omega (arith, s.green_low, t.green_low) in
    (omega (arith, s.second_is, t.second_is), omega arith, blue)

-- a channel's sum over entries of a table is at most that of a full table of level 255
pub channel-low : (n : ℕ) (ks ws : List ℕ) → Tabled n ks ws → (f : ℕ → ℕ) → ((k : ℕ) → f k ≤ most_level) → (i : ℕ)
    → i ≤ n → sum i (weighed f ks ws) ≤ most_sum
channel-low n ks ws t f low i l =
    omega (
      arith,
      sum-part i n (weighed f ks ws) l,
      sum-weighed n most_level (λ j. get_or ws j 0) (λ j. f (get_or ks j 0)) (λ j. low (get_or ks j 0)),
      t.pixels,
    )
