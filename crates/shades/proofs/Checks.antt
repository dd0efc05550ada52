-- What the tests of lent coordinates say, fact by fact.
use Prim.Native.Nat.{ℕ, ◌*◌, ◌/◌, ◌%◌, ◌≤◌}
use mathlib.Core.Bool.{false}
use mathlib.Core.List.{List}
use mathlib.Core.Logic.{◌↔◌}
use mathlib.Core.Path.{◌≡◌}
use native.Mathlib.Decide.{dec_lt}
use native.Mathlib.Omega.{arith}
use lib.ListN.{length, get_or, get_or-eq_default}
use lib.Dec.{ltb, eqb}
use borrow.Author.Tests.{ltb-false, le-ltb, eqb-true, eq-eqb}
use Rattle.number.specs.{how_many}
use Rattle.number.proofs.Cases.{neither, not-not}
use Rattle.number.proofs.Counts.{how_many-none, none-how_many}
use Rattle.colour.specs.{most_coordinate}
use Rattle.shades.specs.Places.{most_shades, most_coordinates, OnGrid, Shades}
use Rattle.shades.specs.Tests.{bad_triples, bad_coordinates, off_grid, bad_centre}

-- n numbers pass the test exactly when they are triples, one at least, and not above the most
pub bad-triples-exactly : (most n : ℕ)
    → (bad_triples most n ≡ false) ↔ ((1 ≤ n / 3) × (n ≤ most) × (n ≡ 3 * (n / 3)))
bad-triples-exactly most n = (
  λ h.
      let first = neither (ltb n 3) _ h in
      let rest = neither (ltb most n) _ first.1 in
      let low = ltb-false n 3 first.0 in
      let high = ltb-false most n rest.0 in
      let odd = eqb-true (n % 3) 0 (not-not (eqb (n % 3) 0) rest.1) in
      (omega arith, high, omega arith),
  λ h.
      let some = h.0 in
      let whole = h.2 in
      simp (le-ltb n 3 (omega arith), le-ltb most n h.1, eq-eqb (n % 3) 0 (omega arith)),
)

-- n coordinates pass the test exactly when they are three for each of 1 to 64 shades
pub bad-coordinates-exactly : (n : ℕ)
    → (bad_coordinates n ≡ false) ↔ ((1 ≤ n / 3) × (n / 3 ≤ most_shades) × (n ≡ 3 * (n / 3)))
bad-coordinates-exactly n =
    let e = bad-triples-exactly most_coordinates n in (
      λ h. let t = e.0 h in (t.0, omega (arith, t.1), t.2),
      λ h. e.1 (h.0, omega (arith, h.1, h.2), h.2),
    )

-- so they are at most 192
pub coordinates-at-most : (n : ℕ) → bad_coordinates n ≡ false → n ≤ most_coordinates
coordinates-at-most n h = let whole = (bad-coordinates-exactly n).0 h in omega (arith, whole.1, whole.2)

-- the test of BAD CENTRE fails exactly where every coordinate is on the grid
pub bad-centre-exactly : (s : List ℕ) → (bad_centre s ≡ false) ↔ OnGrid s
bad-centre-exactly s = (
  λ h i.
      let none : how_many (length s) (off_grid s) ≡ 0 = omega (arith, ltb-false 0 (how_many (length s) (off_grid s)) h)
      in
      elim (dec_lt i (length s)) [
        | yes l ↦ ltb-false most_coordinate (get_or s i 0) (how_many-none (length s) (off_grid s) none i l)
        | no l ↦ omega (arith, get_or-eq_default s 0 {n = i} (omega arith))
      ],
  λ low.
      rw (none-how_many (length s) (off_grid s) (λ i l. le-ltb most_coordinate (get_or s i 0) (low i))),
)

-- coordinates that pass both tests are shades, a third as many
pub shades-of-tests : (s : List ℕ) → bad_coordinates (length s) ≡ false → bad_centre s ≡ false → Shades (length s / 3) s
shades-of-tests s count centre =
    let whole = (bad-coordinates-exactly (length s)).0 count in
    record { few = whole.1; room = omega (arith, whole.2); low = (bad-centre-exactly s).0 centre }
