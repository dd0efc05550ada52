-- What a table that passes the test of BAD TABLE gives to a round.
use Prim.Native.Nat.{ℕ, ◌<◌}
use mathlib.Core.Bool.{false}
use mathlib.Core.List.{List}
use mathlib.Core.Path.{◌≡◌}
use native.Mathlib.Omega.{arith}
use lib.ListN.{get_or}
use Rattle.number.specs.{sum}
use Rattle.number.proofs.Sums.{sum-term}
use Rattle.table_test.specs.{Record, bad_table, GoodTable}
use Rattle.table_test.proofs.Promises.{bad-table-exactly}
use Rattle.table_entries.specs.{Tabled}

-- its used entries lie in the two slices
pub tabled-of-test : (rec : Record) (ks ws : List ℕ) → bad_table rec ks ws ≡ false → Tabled rec.used ks ws
tabled-of-test rec ks ws h =
    let g : GoodTable rec ks ws = (bad-table-exactly rec ks ws).0 h in
    record {
      keys_room = omega (arith, g.in_room);
      weights_room = omega (arith, g.in_room);
      few = omega (arith, g.in_room);
      pixels = omega (arith, g.pixels, g.most);
    }

-- and where it has entries, it has pixels
pub pixels-of-test : (rec : Record) (ks ws : List ℕ) → bad_table rec ks ws ≡ false → 0 < rec.used
    → 0 < sum rec.used (λ i. get_or ws i 0)
pixels-of-test rec ks ws h some =
    let g : GoodTable rec ks ws = (bad-table-exactly rec ks ws).0 h in
    omega (arith, g.weights 0 some, sum-term 0 rec.used (λ i. get_or ws i 0) some)
